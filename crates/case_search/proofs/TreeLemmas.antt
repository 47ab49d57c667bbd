-- Trees whose faults have other names.
use Rattle.std.proofs.Common.{◌≡◌, ℕ, List, [], ◌∷◌, ◌++◌, inl, inr, ap, ◌∙◌}
use Rattle.refute_rules.specs.declared.choices.Decision.{Decision}
use Rattle.refute_rules.specs.declared.choices.Choice.{Choice}
use Rattle.refute_rules.specs.Trees.{AreInOrder, IsLeaf, IsTree}

in_order-weaker : {X M : Type 0} (A B : X → List M → List M → Type 0) → ((x : X) (marks rest : List M) → A x marks rest → B x marks rest) → (xs : List X) (marks rest : List M) → AreInOrder A xs marks rest → AreInOrder B xs marks rest
in_order-weaker A B f [] marks rest h = h
in_order-weaker A B f (x ∷ xs) marks rest h = (h.0, f x marks h.0 h.1, in_order-weaker A B f xs h.0 rest h.2)

module _ {F G : Type 0} (options : Decision → List Choice) (A : List Choice → F → Type 0) (a : F → List ℕ) (B : List Choice → G → Type 0) (b : G → List ℕ) (name : F → G) (stands : (case : List Choice) (fault : F) → A case fault → B case (name fault)) (same : (fault : F) → a fault ≡ b (name fault)) where
  renamed-leaf : (case : List Choice) (marks rest : List ℕ) → IsLeaf A a case marks rest → IsLeaf B b case marks rest
  renamed-leaf case marks rest h = (name h.0, stands case h.0 h.1, h.2 ∙ ap (λ l. l ++ rest) (same h.0))

  -- a tree by faults of one kind is a tree by their names
  pub renamed-tree : (left : List Decision) (case : List Choice) (marks rest : List ℕ) → IsTree options A a left case marks rest → IsTree options B b left case marks rest
  renamed-tree [] case marks rest h = renamed-leaf case marks rest h
  renamed-tree (next ∷ left) case marks rest (inl h) = inl (renamed-leaf case marks rest h)
  renamed-tree (next ∷ left) case marks rest (inr h) = inr (
    h.0,
    h.1,
    in_order-weaker (λ choice. IsTree options A a left (case ++ choice ∷ [])) (λ choice. IsTree options B b left (case ++ choice ∷ [])) (λ choice marks rest. renamed-tree left (case ++ choice ∷ []) marks rest) (options next) h.0 rest h.2,
  )
