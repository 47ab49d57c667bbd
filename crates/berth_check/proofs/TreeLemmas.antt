-- What the front of the marks says of the cases that are still to be read.
use Rattle.std.proofs.Common.{◌≡◌, ℕ, zero, suc, List, [], ◌∷◌, ◌++◌, drop, get_or, nat_eq, if◌then◌else◌, ◌⊎◌, inl, inr, refl, sym, ap, ◌∙◌, subst, arith, ◌↔◌}
use Rattle.lock_model.specs.Deck.{Deck}
use Rattle.refute_rules.specs.declared.choices.Choice.{Choice}
use Rattle.refute_rules.specs.Trees.{AreInOrder, IsLeaf}
use Rattle.refute_rules.proofs.LeafLemmas.{HasKind, leaf-same}
use Rattle.refute_rules.specs.BerthFaults.{BerthFault, OtherRank, LeadsBack, TooLong, Outside, Guests, Crowd, NoPlaces, IsBerthFault, berth_fault_numbers}
use Rattle.refute_rules.specs.BerthTrees.{Split, OfBerth, OfOrder, IsOpen, split_options, split_numbers, IsTreeWithin, BeginsWithTree}
use Rattle.berth_check.specs.Pending.{AreTrees, extensions}
use Rattle.refute_rules.proofs.OrderLemmas.{order-weaker, order-join, order-part, order-map, map-order}
use Rattle.refute_rules.proofs.BerthTreeLemmas.{split_tree}

abbrev head : List ℕ → ℕ
head ns = get_or ns 0 0

-- how many numbers follow the kind of a leaf
abbrev size_of : ℕ → ℕ
size_of kind = if nat_eq kind 8 then 0 else 1

fault-kind : (d : Deck) (case : List Choice) (fault : BerthFault) → IsBerthFault d case fault → HasKind berth_fault_numbers size_of fault
fault-kind d case (OtherRank i) h = record { kind = 1; tail = i ∷ []; told = refl; sized = refl; some = λ e. omega (arith, e) }
fault-kind d case (LeadsBack i) h = record { kind = 2; tail = i ∷ []; told = refl; sized = refl; some = λ e. omega (arith, e) }
fault-kind d case (TooLong i) h = record { kind = 3; tail = i ∷ []; told = refl; sized = refl; some = λ e. omega (arith, e) }
fault-kind d case (Outside i) h = record { kind = 4; tail = i ∷ []; told = refl; sized = refl; some = λ e. omega (arith, e) }
fault-kind d case (Guests i) h = record { kind = 5; tail = i ∷ []; told = refl; sized = refl; some = λ e. omega (arith, e) }
fault-kind d case (Crowd i) h = record { kind = 6; tail = i ∷ []; told = refl; sized = refl; some = λ e. omega (arith, e) }
fault-kind d case NoPlaces h = record { kind = 8; tail = []; told = refl; sized = refl; some = λ e. omega (arith, e) }

leaf-no_split : (fault : BerthFault) (rest : List ℕ) (split : Split) (inner : List ℕ) → berth_fault_numbers fault ++ rest ≡ split_numbers split ++ inner → ⊥
leaf-no_split (OtherRank i) rest (OfBerth j) inner e = omega (arith, ap head e)
leaf-no_split (LeadsBack i) rest (OfBerth j) inner e = omega (arith, ap head e)
leaf-no_split (TooLong i) rest (OfBerth j) inner e = omega (arith, ap head e)
leaf-no_split (Outside i) rest (OfBerth j) inner e = omega (arith, ap head e)
leaf-no_split (Guests i) rest (OfBerth j) inner e = omega (arith, ap head e)
leaf-no_split (Crowd i) rest (OfBerth j) inner e = omega (arith, ap head e)
leaf-no_split NoPlaces rest (OfBerth j) inner e = omega (arith, ap head e)
leaf-no_split (OtherRank i) rest (OfOrder j k) inner e = omega (arith, ap head e)
leaf-no_split (LeadsBack i) rest (OfOrder j k) inner e = omega (arith, ap head e)
leaf-no_split (TooLong i) rest (OfOrder j k) inner e = omega (arith, ap head e)
leaf-no_split (Outside i) rest (OfOrder j k) inner e = omega (arith, ap head e)
leaf-no_split (Guests i) rest (OfOrder j k) inner e = omega (arith, ap head e)
leaf-no_split (Crowd i) rest (OfOrder j k) inner e = omega (arith, ap head e)
leaf-no_split NoPlaces rest (OfOrder j k) inner e = omega (arith, ap head e)

same-split : (s t : Split) (a b : List ℕ) → split_numbers s ++ a ≡ split_numbers t ++ b → (s ≡ t) × (a ≡ b)
same-split (OfBerth i) (OfBerth j) a b e = (ap OfBerth (ap (λ ns. get_or ns 1 0) e), ap (drop 2) e)
same-split (OfBerth i) (OfOrder j k) a b e = absurd (omega (arith, ap head e))
same-split (OfOrder i j) (OfBerth k) a b e = absurd (omega (arith, ap head e))
same-split (OfOrder i j) (OfOrder k l) a b e =
    let first : i ≡ k = ap (λ ns. get_or ns 1 0) e in
    let second : j ≡ l = ap (λ ns. get_or ns 2 0) e in
    (ap (λ u. OfOrder u j) first ∙ ap (OfOrder k) second, ap (drop 3) e)

module _ (d : Deck) where
  abbrev pub Leaf : List Choice → List ℕ → List ℕ → Type 0
  Leaf = IsLeaf (IsBerthFault d) berth_fault_numbers

  same_leaf : (case : List Choice) (marks r s : List ℕ) → Leaf case marks r → Leaf case marks s → r ≡ s
  same_leaf case marks r s = leaf-same (IsBerthFault d) berth_fault_numbers size_of (fault-kind d) case marks r s

  -- a split and the trees of its options stand at the front
  pub record IsSplitBy (case : List Choice) (marks rest : List ℕ) : Type 0 where
    pub split : Split
    pub is_open : IsOpen d case split
    pub inner : List ℕ
    pub told : marks ≡ split_numbers split ++ inner
    pub trees : AreInOrder (λ choice. BeginsWithTree d (case ++ choice ∷ [])) (split_options d split) inner rest

  pub tree-cases : (case : List Choice) (marks rest : List ℕ) → BeginsWithTree d case marks rest → Leaf case marks rest ⊎ IsSplitBy case marks rest
  tree-cases case marks rest tree = at tree.0 tree.1
    where
      at : (depth : ℕ) → IsTreeWithin d depth case marks rest → Leaf case marks rest ⊎ IsSplitBy case marks rest
      at zero leaf = inl leaf
      at (suc depth) (inl leaf) = inl leaf
      at (suc depth) (inr h) =
          inr (record {
            split = h.0;
            is_open = h.1;
            inner = h.2;
            told = h.3;
            trees = order-weaker (λ choice. IsTreeWithin d depth (case ++ choice ∷ [])) (λ choice. BeginsWithTree d (case ++ choice ∷ [])) (λ choice u v t. (depth, t)) (split_options d h.0) h.2 rest h.4;
          })

  pub leaf-step : (case : List Choice) (cases : List (List Choice)) (marks rest : List ℕ) → Leaf case marks rest → AreTrees d (case ∷ cases) marks ↔ AreTrees d cases rest
  leaf-step case cases marks rest leaf = (λ h. there h (tree-cases case marks h.0 h.1), λ h. (rest, (0, leaf), h))
    where
      there : (h : AreTrees d (case ∷ cases) marks) → Leaf case marks h.0 ⊎ IsSplitBy case marks h.0 → AreTrees d cases rest
      there h (inl other) = subst (AreTrees d cases) (same_leaf case marks h.0 rest other leaf) h.2
      there h (inr split) = absurd (leaf-no_split leaf.0 rest split.split split.inner (sym leaf.2 ∙ split.told))

  pub split-step : (case : List Choice) (cases : List (List Choice)) (marks inner : List ℕ) (split : Split) → IsOpen d case split → marks ≡ split_numbers split ++ inner → AreTrees d (case ∷ cases) marks ↔ AreTrees d (extensions d case split ++ cases) inner
  split-step case cases marks inner split is_open told = (λ h. there h (tree-cases case marks h.0 h.1), back)
    where
      there : (h : AreTrees d (case ∷ cases) marks) → Leaf case marks h.0 ⊎ IsSplitBy case marks h.0 → AreTrees d (extensions d case split ++ cases) inner
      there h (inl leaf) = absurd (leaf-no_split leaf.0 h.0 split inner (sym leaf.2 ∙ told))
      there h (inr other) =
          let same = same-split other.split split other.inner inner (sym other.told ∙ told) in
          let trees = subst (λ ms. AreInOrder (λ choice. BeginsWithTree d (case ++ choice ∷ [])) (split_options d split) ms h.0) same.1 (subst (λ s. AreInOrder (λ choice. BeginsWithTree d (case ++ choice ∷ [])) (split_options d s) other.inner h.0) same.0 other.trees) in
          order-join (BeginsWithTree d) (extensions d case split) cases inner h.0 [] (order-map (BeginsWithTree d) (λ choice. case ++ choice ∷ []) (split_options d split) inner h.0 trees) h.2

      back : AreTrees d (extensions d case split ++ cases) inner → AreTrees d (case ∷ cases) marks
      back h =
          let parts = order-part (BeginsWithTree d) (extensions d case split) cases inner [] h in
          (parts.0, split_tree d case split is_open marks inner parts.0 told (map-order (BeginsWithTree d) (λ choice. case ++ choice ∷ []) (split_options d split) inner parts.0 parts.1), parts.2)
