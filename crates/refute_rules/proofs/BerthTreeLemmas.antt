-- Trees of a case from those of its extensions, whatever their depths.
use Rattle.std.proofs.Common.{◌≡◌, ℕ, zero, suc, ◌+◌, ◌≤◌, List, [], ◌∷◌, ◌++◌, inl, inr, refl, subst, arith}
use Rattle.std.proofs.lemmas.Bool.Decides.{leb_tells}
use Rattle.lock_model.specs.Deck.{Deck}
use Rattle.refute_rules.specs.declared.choices.Choice.{Choice}
use Rattle.refute_rules.specs.Trees.{AreInOrder}
use Rattle.refute_rules.specs.BerthFaults.{BerthFault, IsBerthFault, berth_fault_numbers}
use Rattle.refute_rules.specs.BerthTrees.{Split, IsOpen, split_options, split_numbers, IsTreeWithin, BeginsWithTree}
use Rattle.refute_rules.proofs.OrderLemmas.{order-weaker}

module _ (d : Deck) where
  deeper-one : (depth : ℕ) (case : List Choice) (m r : List ℕ) → IsTreeWithin d depth case m r → IsTreeWithin d (suc depth) case m r
  deeper-one zero case m r leaf = inl leaf
  deeper-one (suc depth) case m r (inl leaf) = inl leaf
  deeper-one (suc depth) case m r (inr h) =
      inr (h.0, h.1, h.2, h.3, order-weaker (λ choice. IsTreeWithin d depth (case ++ choice ∷ [])) (λ choice. IsTreeWithin d (suc depth) (case ++ choice ∷ [])) (λ choice u v t. deeper-one depth (case ++ choice ∷ []) u v t) (split_options d h.0) h.2 r h.4)

  deeper : (deep depth : ℕ) (case : List Choice) (m r : List ℕ) → depth ≤ deep → IsTreeWithin d depth case m r → IsTreeWithin d deep case m r
  deeper zero depth case m r less tree = let same : depth ≡ 0 = omega (arith, less) in subst (λ k. IsTreeWithin d k case m r) same tree
  deeper (suc deep) depth case m r less tree =
      elim (leb_tells depth deep) [
        | inl y ↦ deeper-one deep case m r (deeper deep depth case m r y.1 tree)
        | inr n ↦ let same : depth ≡ suc deep = omega (arith, less, n.1) in subst (λ k. IsTreeWithin d k case m r) same tree
      ]

  -- the depth of some trees in order is that of the deepest
  one-depth : (case : List Choice) (options : List Choice) (m r : List ℕ) → AreInOrder (λ choice. BeginsWithTree d (case ++ choice ∷ [])) options m r → (depth : ℕ) × AreInOrder (λ choice. IsTreeWithin d depth (case ++ choice ∷ [])) options m r
  one-depth case [] m r h = (0, h)
  one-depth case (choice ∷ options) m r h =
      let more = one-depth case options h.0 r h.2 in
      let depth : ℕ = h.1.0 + more.0 in (
        depth,
        (h.0, deeper depth h.1.0 (case ++ choice ∷ []) m h.0 (omega arith) h.1.1, order-weaker (λ c. IsTreeWithin d more.0 (case ++ c ∷ [])) (λ c. IsTreeWithin d depth (case ++ c ∷ [])) (λ c u v t. deeper depth more.0 (case ++ c ∷ []) u v (omega arith) t) options h.0 r more.1),
      )

  -- an open split, and trees of its options in order
  pub split_tree : (case : List Choice) (split : Split) → IsOpen d case split → (marks inner rest : List ℕ) → marks ≡ split_numbers split ++ inner → AreInOrder (λ choice. BeginsWithTree d (case ++ choice ∷ [])) (split_options d split) inner rest → BeginsWithTree d case marks rest
  split_tree case split is_open marks inner rest told trees =
      let deep = one-depth case (split_options d split) inner rest trees in
      (suc deep.0, inr (split, is_open, inner, told, deep.1))

  -- a fault that stands
  pub fault_tree : (case : List Choice) (fault : BerthFault) → IsBerthFault d case fault → (rest : List ℕ) → BeginsWithTree d case (berth_fault_numbers fault ++ rest) rest
  fault_tree case fault stands rest = (0, (fault, stands, refl))
