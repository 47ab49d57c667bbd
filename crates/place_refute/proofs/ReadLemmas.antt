-- Reading trees: at most one rest is left, and children follow one another.
use Rattle.std.proofs.Common.{◌≡◌, ◌≢◌, ℕ, ◌+◌, ◌<◌, ◌≤◌, List, [], ◌∷◌, ◌++◌, length, take, drop, get_or, inl, inr, refl, sym, ap, ◌∙◌, subst, arith, Some, None, IfSome, IfNone, Bool, IsTrue, ◌↔◌}
use Rattle.std.specs.declared.option.Option.{Option}
use Rattle.std.proofs.lemmas.List.{drop_more, drop_all, take_more, take_all, take-append-drop, length-drop}
use Rattle.lock_model.specs.declared.limits.TheConstants.{MOST}
use Rattle.lock_model.specs.Deck.{Deck}
use Rattle.refute_rules.specs.declared.choices.Decision.{Decision}
use Rattle.refute_rules.specs.declared.choices.Decision.TheVariants.{BerthOf}
use Rattle.refute_rules.specs.declared.choices.Choice.{Choice}
use Rattle.refute_rules.specs.declared.choices.Choice.TheVariants.{Before}
use Rattle.refute_rules.specs.Choices.{options_of, decisions, spot_decisions}
use Rattle.refute_rules.specs.Values.{spot_values}
use Rattle.refute_rules.specs.Cases.{IsCaseFault, case_fault_numbers}
use Rattle.refute_rules.specs.SpotFaults.{IsSpotFault, spot_fault_numbers}
use Rattle.refute_rules.specs.Trees.{AreInOrder, IsLeaf, IsTree}
use Rattle.place_refute.specs.declared.leaf.Trees.{Trees}
use Rattle.place_refute.specs.declared.leaf.Trees.TheVariants.{OfCases, OfSpots}
use Rattle.place_refute.specs.Reading.{IsLeafOf, IsTreeOf, IsLeafAt, HasNoLeafAt, IsTreeAt, HasNoTreeAt}
use Rattle.place_refute.specs.Walking.{IsReading, next_of, later_of, AreTrees, AreChildrenAt, HasNoChildrenAt, IsChildAt, HasNoChildAt}
use Rattle.deck_cases.proofs.DecisionLemmas.{case-asked, spot-asked, case-few, spot-few}
use Rattle.place_refute.proofs.LeafLemmas.{same_leaf, kind_leaf}

-- things in order, and one more
pub order-more : {X M : Type 0} (Tree : X → List M → List M → Type 0) (xs : List X) (y : X) (marks middle rest : List M) → AreInOrder Tree xs marks middle → Tree y middle rest → AreInOrder Tree (xs ++ y ∷ []) marks rest
order-more {X} {M} Tree [] y marks middle rest h tree = (rest, subst (λ ms. Tree y ms rest) (sym h) tree, refl)
order-more Tree (x ∷ xs) y marks middle rest h tree = (h.0, h.1, order-more Tree xs y h.0 middle rest h.2 tree)

-- the first of them, then one, then the others
pub record IsPassing {X M : Type 0} (Tree : X → List M → List M → Type 0) (xs : List X) (y : X) (marks : List M) : Type 0 where
  pub middle : List M
  pub behind : List M
  pub before : AreInOrder Tree xs marks middle
  pub here : Tree y middle behind

pub order-passing : {X M : Type 0} (Tree : X → List M → List M → Type 0) (xs : List X) (y : X) (ys : List X) (marks rest : List M) → AreInOrder Tree (xs ++ y ∷ ys) marks rest → IsPassing Tree xs y marks
order-passing Tree [] y ys marks rest h = record { middle = marks; behind = h.0; before = refl; here = h.1 }
order-passing Tree (x ∷ xs) y ys marks rest h =
    let more = order-passing Tree xs y ys h.0 rest h.2 in
    record { middle = more.middle; behind = more.behind; before = (h.0, h.1, more.before); here = more.here }

pub order-same : {X M : Type 0} (Tree : X → List M → List M → Type 0) → ((x : X) (marks r s : List M) → Tree x marks r → Tree x marks s → r ≡ s) → (xs : List X) (marks r s : List M) → AreInOrder Tree xs marks r → AreInOrder Tree xs marks s → r ≡ s
order-same Tree one [] marks r s a b = sym a ∙ b
order-same {X} {M} Tree one (x ∷ xs) marks r s a b =
    let same : a.0 ≡ b.0 = one x marks a.0 b.0 a.1 b.1 in
    order-same Tree one xs b.0 r s (subst (λ ms. AreInOrder Tree xs ms r) same a.2) b.2

module _ {F : Type 0} (options : Decision → List Choice) (IsFault : List Choice → F → Type 0) (numbers_of : F → List ℕ)
    (leaf_same : (case : List Choice) (marks r s : List ℕ) → IsLeaf IsFault numbers_of case marks r → IsLeaf IsFault numbers_of case marks s → r ≡ s)
    (leaf_kind : (case : List Choice) (marks rest : List ℕ) → IsLeaf IsFault numbers_of case marks rest → get_or marks 0 0 ≢ 0) where
  abbrev Tree : List Decision → List Choice → List ℕ → List ℕ → Type 0
  Tree = IsTree options IsFault numbers_of

  pub tree-same : (left : List Decision) (case : List Choice) (marks r s : List ℕ) → Tree left case marks r → Tree left case marks s → r ≡ s
  tree-same [] case marks r s a b = leaf_same case marks r s a b
  tree-same (next ∷ left) case marks r s (inl a) (inl b) = leaf_same case marks r s a b
  tree-same (next ∷ left) case marks r s (inl a) (inr b) = absurd (leaf_kind case marks r a (ap (λ ms. get_or ms 0 0) b.1))
  tree-same (next ∷ left) case marks r s (inr a) (inl b) = absurd (leaf_kind case marks s b (ap (λ ms. get_or ms 0 0) a.1))
  tree-same (next ∷ left) case marks r s (inr a) (inr b) =
      let inner : a.0 ≡ b.0 = ap (drop 1) (sym a.1 ∙ b.1) in
      order-same (λ choice. Tree left (case ++ choice ∷ [])) (λ choice ms p q. tree-same left (case ++ choice ∷ []) ms p q) (options next) b.0 r s
      (subst (λ ms. AreInOrder (λ choice. Tree left (case ++ choice ∷ [])) (options next) ms r) inner a.2) b.2

  pub leaf-tree : (left : List Decision) (case : List Choice) (marks rest : List ℕ) → IsLeaf IsFault numbers_of case marks rest → Tree left case marks rest
  leaf-tree [] case marks rest leaf = leaf
  leaf-tree (next ∷ left) case marks rest leaf = inl leaf

  pub tree-leaf : (left : List Decision) (case : List Choice) (marks rest : List ℕ) → get_or marks 0 0 ≢ 0 → Tree left case marks rest → IsLeaf IsFault numbers_of case marks rest
  tree-leaf [] case marks rest n tree = tree
  tree-leaf (next ∷ left) case marks rest n (inl leaf) = leaf
  tree-leaf (next ∷ left) case marks rest n (inr split) = absurd (n (ap (λ ms. get_or ms 0 0) split.1))

  pub split-tree : (next : Decision) (left : List Decision) (case : List Choice) (inner rest : List ℕ) → AreInOrder (λ choice. Tree left (case ++ choice ∷ [])) (options next) inner rest → Tree (next ∷ left) case (0 ∷ inner) rest
  split-tree next left case inner rest h = inr (inner, refl, h)

  pub tree-split : (next : Decision) (left : List Decision) (case : List Choice) (inner rest : List ℕ) → Tree (next ∷ left) case (0 ∷ inner) rest → AreInOrder (λ choice. Tree left (case ++ choice ∷ [])) (options next) inner rest
  tree-split next left case inner rest (inl leaf) = absurd (leaf_kind case (0 ∷ inner) rest leaf refl)
  tree-split next left case inner rest (inr split) =
      let same : split.0 ≡ inner = ap (drop 1) (sym split.1) in
      subst (λ ms. AreInOrder (λ choice. Tree left (case ++ choice ∷ [])) (options next) ms rest) same split.2

  pub none-empty : (left : List Decision) (case : List Choice) (rest : List ℕ) → Tree left case [] rest → ⊥
  none-empty [] case rest leaf = leaf_kind case [] rest leaf refl
  none-empty (next ∷ left) case rest (inl leaf) = leaf_kind case [] rest leaf refl
  none-empty (next ∷ left) case rest (inr split) = empty-cons split.0 split.1
    where
      empty-cons : (inner : List ℕ) → [] ≡ 0 ∷ inner → ⊥
      empty-cons inner e = cc

-- the same of both kinds of trees
module _ (d : Deck) where
  pub same_tree : (trees : Trees) (left : List Decision) (case : List Choice) (marks r s : List ℕ) → IsTreeOf d trees left case marks r → IsTreeOf d trees left case marks s → r ≡ s
  same_tree OfCases = tree-same (options_of d) (IsCaseFault d) case_fault_numbers (same_leaf d OfCases) (kind_leaf d OfCases)
  same_tree OfSpots = tree-same (options_of d) (IsSpotFault d) spot_fault_numbers (same_leaf d OfSpots) (kind_leaf d OfSpots)

  leaf_tree : (trees : Trees) (left : List Decision) (case : List Choice) (marks rest : List ℕ) → IsLeafOf d trees case marks rest → IsTreeOf d trees left case marks rest
  leaf_tree OfCases = leaf-tree (options_of d) (IsCaseFault d) case_fault_numbers (same_leaf d OfCases) (kind_leaf d OfCases)
  leaf_tree OfSpots = leaf-tree (options_of d) (IsSpotFault d) spot_fault_numbers (same_leaf d OfSpots) (kind_leaf d OfSpots)

  tree_leaf : (trees : Trees) (left : List Decision) (case : List Choice) (marks rest : List ℕ) → get_or marks 0 0 ≢ 0 → IsTreeOf d trees left case marks rest → IsLeafOf d trees case marks rest
  tree_leaf OfCases = tree-leaf (options_of d) (IsCaseFault d) case_fault_numbers (same_leaf d OfCases) (kind_leaf d OfCases)
  tree_leaf OfSpots = tree-leaf (options_of d) (IsSpotFault d) spot_fault_numbers (same_leaf d OfSpots) (kind_leaf d OfSpots)

  split_tree : (trees : Trees) (next : Decision) (left : List Decision) (case : List Choice) (inner rest : List ℕ) → AreInOrder (λ choice. IsTreeOf d trees left (case ++ choice ∷ [])) (options_of d next) inner rest → IsTreeOf d trees (next ∷ left) case (0 ∷ inner) rest
  split_tree OfCases = split-tree (options_of d) (IsCaseFault d) case_fault_numbers (same_leaf d OfCases) (kind_leaf d OfCases)
  split_tree OfSpots = split-tree (options_of d) (IsSpotFault d) spot_fault_numbers (same_leaf d OfSpots) (kind_leaf d OfSpots)

  tree_split : (trees : Trees) (next : Decision) (left : List Decision) (case : List Choice) (inner rest : List ℕ) → IsTreeOf d trees (next ∷ left) case (0 ∷ inner) rest → AreInOrder (λ choice. IsTreeOf d trees left (case ++ choice ∷ [])) (options_of d next) inner rest
  tree_split OfCases = tree-split (options_of d) (IsCaseFault d) case_fault_numbers (same_leaf d OfCases) (kind_leaf d OfCases)
  tree_split OfSpots = tree-split (options_of d) (IsSpotFault d) spot_fault_numbers (same_leaf d OfSpots) (kind_leaf d OfSpots)

  none_empty : (trees : Trees) (left : List Decision) (case : List Choice) (rest : List ℕ) → IsTreeOf d trees left case [] rest → ⊥
  none_empty OfCases = none-empty (options_of d) (IsCaseFault d) case_fault_numbers (same_leaf d OfCases) (kind_leaf d OfCases)
  none_empty OfSpots = none-empty (options_of d) (IsSpotFault d) spot_fault_numbers (same_leaf d OfSpots) (kind_leaf d OfSpots)

-- a tree at a place of the marks
module _ (d : Deck) (trees : Trees) (list : List Decision) (case : List Choice) (marks : List ℕ) where
  abbrev left : List Decision
  left = drop (length case) list

  pub past_end : (at : ℕ) → length marks ≤ at → HasNoTreeAt d trees left case marks at
  past_end at long = record { none = λ rest tree. none_empty d trees left case rest (subst (λ ms. IsTreeOf d trees left case ms rest) (drop_all at marks long) tree) }

  kind-at : (at : ℕ) → at < length marks → get_or (drop at marks) 0 0 ≡ get_or marks at 0
  kind-at at here = ap (λ ms. get_or ms 0 0) (drop_more marks at 0 here)

  pub leaf_some : (at : ℕ) (r : Option ℕ) → IfSome r (IsLeafAt d trees case marks at) → IfSome r (IsTreeAt d trees left case marks at)
  leaf_some at None h = tt
  leaf_some at (Some end) h = record { inside = h.inside; tree = leaf_tree d trees left case (drop at marks) (drop end marks) h.leaf }

  pub leaf_none : (at : ℕ) (r : Option ℕ) → at < length marks → get_or marks at 0 ≢ 0 → IfNone r (HasNoLeafAt d trees case marks at) → IfNone r (HasNoTreeAt d trees left case marks at)
  leaf_none at None here n h = record { none = λ rest tree. h.none rest (tree_leaf d trees left case (drop at marks) rest (λ e. n (sym (kind-at at here) ∙ e)) tree) }
  leaf_none at (Some end) here n h = tt

  zero-at : (at : ℕ) → at < length marks → get_or marks at 0 ≡ 0 → drop at marks ≡ 0 ∷ drop (at + 1) marks
  zero-at at here e = drop_more marks at 0 here ∙ ap (λ k. k ∷ drop (at + 1) marks) e

  left-is : length case < length list → left ≡ next_of list case ∷ later_of list case
  left-is less = drop_more list (length case) (BerthOf 0) less

  pub split_some : (at : ℕ) (r : Option ℕ) → at < length marks → get_or marks at 0 ≡ 0 → length case < length list → IfSome r (AreChildrenAt d trees list case marks (at + 1) (length (options_of d (next_of list case)))) → IfSome r (IsTreeAt d trees left case marks at)
  split_some at None here e less h = tt
  split_some at (Some end) here e less h =
      let options = options_of d (next_of list case) in
      let all = subst (λ os. AreTrees d trees list case os (drop (at + 1) marks) (drop end marks)) (take_all (length options) options (omega arith)) h.children in
      record {
        inside = h.inside;
        tree = subst (λ ms. IsTreeOf d trees left case ms (drop end marks)) (sym (zero-at at here e)) (subst (λ l. IsTreeOf d trees l case (0 ∷ drop (at + 1) marks) (drop end marks)) (sym (left-is less)) (split_tree d trees (next_of list case) (later_of list case) case (drop (at + 1) marks) (drop end marks) all));
      }

  pub split_none : (at : ℕ) (r : Option ℕ) → at < length marks → get_or marks at 0 ≡ 0 → length case < length list → IfNone r (HasNoChildrenAt d trees list case marks (at + 1)) → IfNone r (HasNoTreeAt d trees left case marks at)
  split_none at None here e less h = record {
    none = λ rest tree.
        h.none rest (tree_split d trees (next_of list case) (later_of list case) case (drop (at + 1) marks) rest (subst (λ l. IsTreeOf d trees l case (0 ∷ drop (at + 1) marks) rest) (left-is less) (subst (λ ms. IsTreeOf d trees left case ms rest) (zero-at at here e) tree)));
  }
  split_none at (Some end) here e less h = tt

  option-is : (number : ℕ) → number < length (options_of d (next_of list case)) → take (number + 1) (options_of d (next_of list case)) ≡ take number (options_of d (next_of list case)) ++ get_or (options_of d (next_of list case)) number (Before 0 0) ∷ []
  option-is number here = take_more (options_of d (next_of list case)) number (Before 0 0) here

  pub children_more : (first number at end : ℕ) (choice : Choice) → number < length (options_of d (next_of list case)) → choice ≡ get_or (options_of d (next_of list case)) number (Before 0 0) → AreChildrenAt d trees list case marks first number at → IsChildAt d trees list case marks choice at end → AreChildrenAt d trees list case marks first (number + 1) end
  children_more first number at end choice here e h child = record {
    inside = child.inside;
    children =
        subst (λ os. AreTrees d trees list case os (drop first marks) (drop end marks)) (sym (option-is number here ∙ ap (λ c. take number (options_of d (next_of list case)) ++ c ∷ []) (sym e))) (
        order-more (λ c. IsTreeOf d trees (later_of list case) (case ++ c ∷ [])) (take number (options_of d (next_of list case))) choice (drop first marks) (drop at marks) (drop end marks) h.children child.tree);
  }

  pub children_stop : (first number at : ℕ) (choice : Choice) → number < length (options_of d (next_of list case)) → choice ≡ get_or (options_of d (next_of list case)) number (Before 0 0) → AreChildrenAt d trees list case marks first number at → HasNoChildAt d trees list case marks choice at → HasNoChildrenAt d trees list case marks first
  children_stop first number at choice here e h child = record { none = stop }
    where
      parts : options_of d (next_of list case) ≡ take number (options_of d (next_of list case)) ++ choice ∷ drop (number + 1) (options_of d (next_of list case))
      parts =
          let options = options_of d (next_of list case) in
          sym (take-append-drop number options) ∙ ap (λ cs. take number options ++ cs) (drop_more options number (Before 0 0) here ∙ ap (λ c. c ∷ drop (number + 1) options) (sym e))

      stop : (rest : List ℕ) → AreTrees d trees list case (options_of d (next_of list case)) (drop first marks) rest → ⊥
      stop rest all =
          let options = options_of d (next_of list case) in
          let Of : Choice → List ℕ → List ℕ → Type 0 = λ c. IsTreeOf d trees (later_of list case) (case ++ c ∷ []) in
          let split = subst (λ cs. AreTrees d trees list case cs (drop first marks) rest) parts all in
          let passing = order-passing Of (take number options) choice (drop (number + 1) options) (drop first marks) rest split in
          let same : passing.middle ≡ drop at marks = order-same Of (λ c ms r s. same_tree d trees (later_of list case) (case ++ c ∷ []) ms r s) (take number options) (drop first marks) passing.middle (drop at marks) passing.before h.children in
          child.none passing.behind (subst (λ ms. Of choice ms passing.behind) same passing.here)

-- the marks are exactly one tree where it ends at their end
pub whole_tree : (d : Deck) (trees : Trees) (list : List Decision) (case : List Choice) (marks : List ℕ) (end : ℕ) (b : Bool) → case ≡ [] → (IsTrue b → end ≡ length marks) → (end ≡ length marks → IsTrue b) → IsTreeAt d trees (drop (length case) list) case marks 0 end → IsTrue b ↔ IsTreeOf d trees list [] marks []
whole_tree d trees list case marks end b empty ends told at =
    let first : IsTreeAt d trees list [] marks 0 end = subst (λ cs. IsTreeAt d trees (drop (length cs) list) cs marks 0 end) empty at in (
      λ yes. subst (IsTreeOf d trees list [] marks) (ap (λ k. drop k marks) (ends yes) ∙ drop_all (length marks) marks (omega arith)) first.tree,
      λ tree.
          let same : drop end marks ≡ [] = same_tree d trees list [] marks (drop end marks) [] first.tree tree in
          let inside = first.inside in
          told (omega (arith, inside, ap length same, length-drop end marks)),
    )

-- the decisions of a deck are read with the values of an x
module _ (d : Deck) (values : List ℕ) where
  pub reads_cases : (list : List Decision) → list ≡ decisions (length d.ships) → length d.ships ≤ MOST → IsReading d OfCases list values
  reads_cases list e few = record {
    all = e;
    asked = case-asked d values list e;
    few = omega (arith, ap length e, case-few (length d.ships) few);
    ships = few;
  }

  pub reads_spots : (list : List Decision) → list ≡ spot_decisions (length d.ships) → values ≡ spot_values d → length d.ships ≤ MOST → IsReading d OfSpots list values
  reads_spots list e is few = record {
    all = e;
    asked = spot-asked d values list e is;
    few = omega (arith, ap length e, spot-few (length d.ships) few);
    ships = few;
  }
