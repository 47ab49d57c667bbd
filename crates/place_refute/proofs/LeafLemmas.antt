-- Reading a leaf at a place of the marks.
use Rattle.std.proofs.Common.{◌≡◌, ◌≢◌, ℕ, ◌+◌, ◌<◌, ◌≤◌, List, [], ◌∷◌, ◌++◌, length, take, drop, get_or, Contains, Bool, IsTrue, ◌↔◌, ◌⊎◌, inl, inr, refl, sym, ap, ◌∙◌, subst, arith}
use Rattle.std.proofs.lemmas.List.{drop_more, drop-drop, take_at, take-append-drop, length-drop}
use Rattle.std.proofs.lemmas.Bool.Decides.{eqb_tells}
use Rattle.lock_model.specs.Deck.{Deck}
use Rattle.diff_rules.specs.Differences.{IsPositiveCycle}
use Rattle.refute_rules.specs.declared.choices.Choice.{Choice}
use Rattle.refute_rules.specs.Decided.{HasOtherRank}
use Rattle.refute_rules.specs.Edges.{case_edges}
use Rattle.refute_rules.specs.Known.{hosts_within}
use Rattle.refute_rules.specs.Cases.{CaseFault, OtherRank, Walk, IsCaseFault, case_fault_numbers}
use Rattle.refute_rules.specs.SpotFaults.{SpotFault, OtherRank as OtherRankAt, LeadsBack, Outside, PastHost, Touching, IsSpotFault, spot_fault_numbers, IsOutsideAlong, IsOutsideAcross, IsPastHost, AreTouching}
use Rattle.refute_rules.specs.Trees.{IsLeaf}
use Rattle.refute_rules.proofs.LeafLemmas.{head, HasKind, kind-is, tail-is, sized-is, leaf-same, leaf-kind, leaf-long}
use Rattle.place_refute.specs.declared.leaf.Trees.{Trees}
use Rattle.place_refute.specs.declared.leaf.Trees.TheVariants.{OfCases, OfSpots}
use Rattle.place_refute.specs.Drawn.{Drawn, IsDrawn}
use Rattle.place_refute.specs.Reading.{IsFaultBy, IsFaultOf, count_of, IsLeafOf, IsLeafAt, HasNoLeafAt}

module _ {F : Type 0} (IsFault : List Choice → F → Type 0) (numbers_of : F → List ℕ) (size : ℕ → ℕ)
    (law : (case : List Choice) (fault : F) → IsFault case fault → HasKind numbers_of size fault) where
  pub leaf-by : (case : List Choice) (marks rest : List ℕ) → IsLeaf IsFault numbers_of case marks rest → IsFaultBy IsFault numbers_of case (head marks ∷ take (size (head marks)) (drop 1 marks))
  leaf-by case marks rest leaf = record {
    fault = leaf.0;
    stands = leaf.1;
    told =
        (law case leaf.0 leaf.1).told
        ∙ ap (λ k. k ∷ (law case leaf.0 leaf.1).tail) (sym (kind-is IsFault numbers_of size law case marks rest leaf))
        ∙ ap (λ ns. head marks ∷ ns) (sym (ap (take (size (head marks))) (tail-is IsFault numbers_of size law case marks rest leaf) ∙ take_at (law case leaf.0 leaf.1).tail rest (size (head marks)) (sized-is IsFault numbers_of size law case marks rest leaf)));
  }

  pub by-leaf : (case : List Choice) (marks rest : List ℕ) (kind : ℕ) (numbers : List ℕ) → IsFaultBy IsFault numbers_of case (kind ∷ numbers) → marks ≡ kind ∷ (numbers ++ rest) → IsLeaf IsFault numbers_of case marks rest
  by-leaf case marks rest kind numbers by e = (by.fault, by.stands, e ∙ ap (λ ns. ns ++ rest) (sym by.told))

pub case-kind : (d : Deck) (case : List Choice) (fault : CaseFault) → IsCaseFault d case fault → HasKind case_fault_numbers (count_of OfCases) fault
case-kind d case (OtherRank i) h = record { kind = 1; tail = i ∷ []; told = refl; sized = refl; some = λ e. omega (arith, e) }
case-kind d case (Walk numbers) h = record { kind = length numbers; tail = numbers; told = refl; sized = refl; some = λ e. omega (arith, e, h.0) }

pub spot-kind : (d : Deck) (case : List Choice) (fault : SpotFault) → IsSpotFault d case fault → HasKind spot_fault_numbers (count_of OfSpots) fault
spot-kind d case (OtherRankAt i) h = record { kind = 1; tail = i ∷ []; told = refl; sized = refl; some = λ e. omega (arith, e) }
spot-kind d case (LeadsBack i) h = record { kind = 2; tail = i ∷ []; told = refl; sized = refl; some = λ e. omega (arith, e) }
spot-kind d case (Outside i) h = record { kind = 3; tail = i ∷ []; told = refl; sized = refl; some = λ e. omega (arith, e) }
spot-kind d case (PastHost i) h = record { kind = 4; tail = i ∷ []; told = refl; sized = refl; some = λ e. omega (arith, e) }
spot-kind d case (Touching i j) h = record { kind = 5; tail = i ∷ j ∷ []; told = refl; sized = refl; some = λ e. omega (arith, e) }

-- the same of both kinds of trees
pub same_leaf : (d : Deck) (trees : Trees) (case : List Choice) (marks r s : List ℕ) → IsLeafOf d trees case marks r → IsLeafOf d trees case marks s → r ≡ s
same_leaf d OfCases case marks r s = leaf-same (IsCaseFault d) case_fault_numbers (count_of OfCases) (case-kind d) case marks r s
same_leaf d OfSpots case marks r s = leaf-same (IsSpotFault d) spot_fault_numbers (count_of OfSpots) (spot-kind d) case marks r s

pub kind_leaf : (d : Deck) (trees : Trees) (case : List Choice) (marks rest : List ℕ) → IsLeafOf d trees case marks rest → get_or marks 0 0 ≢ 0
kind_leaf d OfCases case marks rest = leaf-kind (IsCaseFault d) case_fault_numbers (count_of OfCases) (case-kind d) case marks rest
kind_leaf d OfSpots case marks rest = leaf-kind (IsSpotFault d) spot_fault_numbers (count_of OfSpots) (spot-kind d) case marks rest

long_leaf : (d : Deck) (trees : Trees) (case : List Choice) (marks rest : List ℕ) → IsLeafOf d trees case marks rest → count_of trees (get_or marks 0 0) ≤ length (drop 1 marks)
long_leaf d OfCases case marks rest = leaf-long (IsCaseFault d) case_fault_numbers (count_of OfCases) (case-kind d) case marks rest
long_leaf d OfSpots case marks rest = leaf-long (IsSpotFault d) spot_fault_numbers (count_of OfSpots) (spot-kind d) case marks rest

leaf_by : (d : Deck) (trees : Trees) (case : List Choice) (marks rest : List ℕ) → IsLeafOf d trees case marks rest → IsFaultOf d trees case (get_or marks 0 0 ∷ take (count_of trees (get_or marks 0 0)) (drop 1 marks))
leaf_by d OfCases case marks rest = leaf-by (IsCaseFault d) case_fault_numbers (count_of OfCases) (case-kind d) case marks rest
leaf_by d OfSpots case marks rest = leaf-by (IsSpotFault d) spot_fault_numbers (count_of OfSpots) (spot-kind d) case marks rest

by_leaf : (d : Deck) (trees : Trees) (case : List Choice) (marks rest : List ℕ) (kind : ℕ) (numbers : List ℕ) → IsFaultOf d trees case (kind ∷ numbers) → marks ≡ kind ∷ (numbers ++ rest) → IsLeafOf d trees case marks rest
by_leaf d OfCases case marks rest = by-leaf (IsCaseFault d) case_fault_numbers (count_of OfCases) (case-kind d) case marks rest
by_leaf d OfSpots case marks rest = by-leaf (IsSpotFault d) spot_fault_numbers (count_of OfSpots) (spot-kind d) case marks rest

-- a leaf at a place of the marks
module _ (d : Deck) (trees : Trees) (case : List Choice) (marks : List ℕ) (at : ℕ) (here : at < length marks) where
  piece : drop at marks ≡ get_or marks at 0 ∷ drop (at + 1) marks
  piece = drop_more marks at 0 here

  kind-here : get_or (drop at marks) 0 0 ≡ get_or marks at 0
  kind-here = ap head piece

  tail-here : drop 1 (drop at marks) ≡ drop (at + 1) marks
  tail-here = ap (drop 1) piece

  pub leaf_stands : (count : ℕ) (numbers : List ℕ) → count ≡ count_of trees (get_or marks at 0) → at + 1 + count ≤ length marks → numbers ≡ take count (drop (at + 1) marks) → IsFaultOf d trees case (get_or marks at 0 ∷ numbers) → IsLeafAt d trees case marks at (at + 1 + count)
  leaf_stands count numbers e long same by =
      let after = drop (at + 1) marks in
      let parts : after ≡ numbers ++ drop (at + 1 + count) marks = sym (take-append-drop count after) ∙ ap (λ ns. ns ++ drop count after) (sym same) ∙ ap (λ ns. numbers ++ ns) (drop-drop count (at + 1) marks) in
      record {
        inside = long;
        leaf = by_leaf d trees case (drop at marks) (drop (at + 1 + count) marks) (get_or marks at 0) numbers by (piece ∙ ap (λ ns. get_or marks at 0 ∷ ns) parts);
      }

  pub leaf_fails : (count : ℕ) (numbers : List ℕ) → count ≡ count_of trees (get_or marks at 0) → numbers ≡ take count (drop (at + 1) marks) → (IsFaultOf d trees case (get_or marks at 0 ∷ numbers) → ⊥) → HasNoLeafAt d trees case marks at
  leaf_fails count numbers e same fails = record { none = λ rest leaf. fails (told rest leaf) }
    where
      told : (rest : List ℕ) → IsLeafOf d trees case (drop at marks) rest → IsFaultOf d trees case (get_or marks at 0 ∷ numbers)
      told rest leaf =
          let kind = get_or marks at 0 in
          let first = subst (λ k. IsFaultOf d trees case (k ∷ take (count_of trees k) (drop 1 (drop at marks)))) kind-here (leaf_by d trees case (drop at marks) rest leaf) in
          let second = subst (λ ns. IsFaultOf d trees case (kind ∷ take (count_of trees kind) ns)) tail-here first in
          let third = subst (λ c. IsFaultOf d trees case (kind ∷ take c (drop (at + 1) marks))) (sym e) second in
          subst (λ ns. IsFaultOf d trees case (kind ∷ ns)) (sym same) third

  pub leaf_short : (count : ℕ) → count ≡ count_of trees (get_or marks at 0) → length marks < at + 1 + count → HasNoLeafAt d trees case marks at
  leaf_short count e short = record {
    none = λ rest leaf.
        omega (arith, e, short, here, long_leaf d trees case (drop at marks) rest leaf, ap (count_of trees) kind-here, ap length tail-here, length-drop (at + 1) marks);
  }

one-of : (ns : List ℕ) → length ns ≡ 1 → ns ≡ get_or ns 0 0 ∷ []
one-of [] e = absurd (omega (arith, e))
one-of (n ∷ []) e = refl
one-of (n ∷ m ∷ ns) e = absurd (omega (arith, e))

two-of : (ns : List ℕ) → length ns ≡ 2 → ns ≡ get_or ns 0 0 ∷ get_or ns 1 0 ∷ []
two-of [] e = absurd (omega (arith, e))
two-of (n ∷ []) e = absurd (omega (arith, e))
two-of (n ∷ m ∷ []) e = refl
two-of (n ∷ m ∷ k ∷ ns) e = absurd (omega (arith, e))

-- what the numbers of a case's fault tell
module _ (d : Deck) (case : List Choice) where
  abbrev IsByCase : List ℕ → Type 0
  IsByCase numbers = IsFaultBy (IsCaseFault d) case_fault_numbers case numbers

  pub rank_by : (ns : List ℕ) → length ns ≡ 1 → HasOtherRank case (get_or ns 0 0) → IsByCase (1 ∷ ns)
  rank_by ns one h = record { fault = OtherRank (get_or ns 0 0); stands = h; told = ap (λ u. 1 ∷ u) (sym (one-of ns one)) }

  pub by_rank : (ns : List ℕ) → length ns ≡ 1 → IsByCase (1 ∷ ns) → HasOtherRank case (get_or ns 0 0)
  by_rank ns one by = tell by.fault by.stands by.told
    where
      tell : (fault : CaseFault) → IsCaseFault d case fault → case_fault_numbers fault ≡ 1 ∷ ns → HasOtherRank case (get_or ns 0 0)
      tell (OtherRank i) h e = subst (HasOtherRank case) (ap (λ xs. get_or xs 1 0) e) h
      tell (Walk numbers) h e = absurd (omega (arith, h.0, ap head e))

  pub walk_by : (kind : ℕ) (ns : List ℕ) → length ns ≡ kind → kind ≢ 0 → kind ≢ 1 → IsPositiveCycle (case_edges d case) ns → IsByCase (kind ∷ ns)
  walk_by kind ns e some more h = record { fault = Walk ns; stands = (omega (arith, e, some, more), h); told = ap (λ k. k ∷ ns) e }

  pub by_walk : (kind : ℕ) (ns : List ℕ) → kind ≢ 1 → IsByCase (kind ∷ ns) → IsPositiveCycle (case_edges d case) ns
  by_walk kind ns more by = tell by.fault by.stands by.told
    where
      tell : (fault : CaseFault) → IsCaseFault d case fault → case_fault_numbers fault ≡ kind ∷ ns → IsPositiveCycle (case_edges d case) ns
      tell (OtherRank i) h e = absurd (more (sym (ap head e)))
      tell (Walk numbers) h e = subst (IsPositiveCycle (case_edges d case)) (ap (drop 1) e) h.1

-- what the numbers of a spot case's fault tell
module _ (d : Deck) (case : List Choice) where
  abbrev IsBySpot : List ℕ → Type 0
  IsBySpot numbers = IsFaultBy (IsSpotFault d) spot_fault_numbers case numbers

  pub spot_by : (fault : SpotFault) (kind : ℕ) (ns : List ℕ) → IsSpotFault d case fault → spot_fault_numbers fault ≡ kind ∷ ns → IsBySpot (kind ∷ ns)
  spot_by fault kind ns h e = record { fault = fault; stands = h; told = e }

  pub ship_told : (kind : ℕ) (ns : List ℕ) → length ns ≡ 1 → kind ∷ get_or ns 0 0 ∷ [] ≡ kind ∷ ns
  ship_told kind ns one = ap (λ u. kind ∷ u) (sym (one-of ns one))

  pub ships_told : (kind : ℕ) (ns : List ℕ) → length ns ≡ 2 → kind ∷ get_or ns 0 0 ∷ get_or ns 1 0 ∷ [] ≡ kind ∷ ns
  ships_told kind ns two = ap (λ u. kind ∷ u) (sym (two-of ns two))

  pub by_one : (ns : List ℕ) → IsBySpot (1 ∷ ns) → HasOtherRank case (get_or ns 0 0)
  by_one ns by = tell by.fault by.stands by.told
    where
      tell : (fault : SpotFault) → IsSpotFault d case fault → spot_fault_numbers fault ≡ 1 ∷ ns → HasOtherRank case (get_or ns 0 0)
      tell (OtherRankAt i) h e = subst (HasOtherRank case) (ap (λ xs. get_or xs 1 0) e) h
      tell (LeadsBack i) h e = absurd (omega (arith, ap head e))
      tell (Outside i) h e = absurd (omega (arith, ap head e))
      tell (PastHost i) h e = absurd (omega (arith, ap head e))
      tell (Touching i j) h e = absurd (omega (arith, ap head e))

  pub by_two : (ns : List ℕ) → IsBySpot (2 ∷ ns) → Contains (hosts_within case (length d.ships) (get_or ns 0 0)) (get_or ns 0 0)
  by_two ns by = tell by.fault by.stands by.told
    where
      tell : (fault : SpotFault) → IsSpotFault d case fault → spot_fault_numbers fault ≡ 2 ∷ ns → Contains (hosts_within case (length d.ships) (get_or ns 0 0)) (get_or ns 0 0)
      tell (OtherRankAt i) h e = absurd (omega (arith, ap head e))
      tell (LeadsBack i) h e = subst (λ k. Contains (hosts_within case (length d.ships) k) k) (ap (λ xs. get_or xs 1 0) e) h
      tell (Outside i) h e = absurd (omega (arith, ap head e))
      tell (PastHost i) h e = absurd (omega (arith, ap head e))
      tell (Touching i j) h e = absurd (omega (arith, ap head e))

  pub by_three : (ns : List ℕ) → IsBySpot (3 ∷ ns) → IsOutsideAlong d case (get_or ns 0 0) ⊎ IsOutsideAcross d case (get_or ns 0 0)
  by_three ns by = tell by.fault by.stands by.told
    where
      tell : (fault : SpotFault) → IsSpotFault d case fault → spot_fault_numbers fault ≡ 3 ∷ ns → IsOutsideAlong d case (get_or ns 0 0) ⊎ IsOutsideAcross d case (get_or ns 0 0)
      tell (OtherRankAt i) h e = absurd (omega (arith, ap head e))
      tell (LeadsBack i) h e = absurd (omega (arith, ap head e))
      tell (Outside i) h e = subst (λ k. IsOutsideAlong d case k ⊎ IsOutsideAcross d case k) (ap (λ xs. get_or xs 1 0) e) h
      tell (PastHost i) h e = absurd (omega (arith, ap head e))
      tell (Touching i j) h e = absurd (omega (arith, ap head e))

  pub by_four : (ns : List ℕ) → IsBySpot (4 ∷ ns) → IsPastHost d case (get_or ns 0 0)
  by_four ns by = tell by.fault by.stands by.told
    where
      tell : (fault : SpotFault) → IsSpotFault d case fault → spot_fault_numbers fault ≡ 4 ∷ ns → IsPastHost d case (get_or ns 0 0)
      tell (OtherRankAt i) h e = absurd (omega (arith, ap head e))
      tell (LeadsBack i) h e = absurd (omega (arith, ap head e))
      tell (Outside i) h e = absurd (omega (arith, ap head e))
      tell (PastHost i) h e = subst (IsPastHost d case) (ap (λ xs. get_or xs 1 0) e) h
      tell (Touching i j) h e = absurd (omega (arith, ap head e))

  pub by_five : (ns : List ℕ) → IsBySpot (5 ∷ ns) → AreTouching d case (get_or ns 0 0) (get_or ns 1 0)
  by_five ns by = tell by.fault by.stands by.told
    where
      tell : (fault : SpotFault) → IsSpotFault d case fault → spot_fault_numbers fault ≡ 5 ∷ ns → AreTouching d case (get_or ns 0 0) (get_or ns 1 0)
      tell (OtherRankAt i) h e = absurd (omega (arith, ap head e))
      tell (LeadsBack i) h e = absurd (omega (arith, ap head e))
      tell (Outside i) h e = absurd (omega (arith, ap head e))
      tell (PastHost i) h e = absurd (omega (arith, ap head e))
      tell (Touching i j) h e = subst (λ a. AreTouching d case a (get_or ns 1 0)) (ap (λ xs. get_or xs 1 0) e) (subst (λ b. AreTouching d case i b) (ap (λ xs. get_or xs 2 0) e) h)

  -- each kind of a spot case's fault, as it is tested
  pub tells_one : (kind : ℕ) (ns : List ℕ) (b : Bool) → kind ≡ 1 → length ns ≡ count_of OfSpots kind → IsTrue b ↔ HasOtherRank case (get_or ns 0 0) → IsTrue b ↔ IsBySpot (kind ∷ ns)
  tells_one kind ns b e long tells =
      let one = long ∙ ap (count_of OfSpots) e in
      subst (λ k. IsTrue b ↔ IsBySpot (k ∷ ns)) (sym e) (λ yes. spot_by (OtherRankAt (get_or ns 0 0)) 1 ns (tells.0 yes) (ship_told 1 ns one), λ by. tells.1 (by_one ns by))

  pub tells_two : (kind : ℕ) (ns : List ℕ) (b : Bool) → kind ≡ 2 → length ns ≡ count_of OfSpots kind → IsTrue b ↔ Contains (hosts_within case (length d.ships) (get_or ns 0 0)) (get_or ns 0 0) → IsTrue b ↔ IsBySpot (kind ∷ ns)
  tells_two kind ns b e long tells =
      let one = long ∙ ap (count_of OfSpots) e in
      subst (λ k. IsTrue b ↔ IsBySpot (k ∷ ns)) (sym e) (λ yes. spot_by (LeadsBack (get_or ns 0 0)) 2 ns (tells.0 yes) (ship_told 2 ns one), λ by. tells.1 (by_two ns by))

  pub tells_three : (kind : ℕ) (ns : List ℕ) (b : Bool) → kind ≡ 3 → length ns ≡ count_of OfSpots kind → IsTrue b ↔ (IsOutsideAlong d case (get_or ns 0 0) ⊎ IsOutsideAcross d case (get_or ns 0 0)) → IsTrue b ↔ IsBySpot (kind ∷ ns)
  tells_three kind ns b e long tells =
      let one = long ∙ ap (count_of OfSpots) e in
      subst (λ k. IsTrue b ↔ IsBySpot (k ∷ ns)) (sym e) (λ yes. spot_by (Outside (get_or ns 0 0)) 3 ns (tells.0 yes) (ship_told 3 ns one), λ by. tells.1 (by_three ns by))

  pub tells_four : (kind : ℕ) (ns : List ℕ) (b : Bool) → kind ≡ 4 → length ns ≡ count_of OfSpots kind → IsTrue b ↔ IsPastHost d case (get_or ns 0 0) → IsTrue b ↔ IsBySpot (kind ∷ ns)
  tells_four kind ns b e long tells =
      let one = long ∙ ap (count_of OfSpots) e in
      subst (λ k. IsTrue b ↔ IsBySpot (k ∷ ns)) (sym e) (λ yes. spot_by (PastHost (get_or ns 0 0)) 4 ns (tells.0 yes) (ship_told 4 ns one), λ by. tells.1 (by_four ns by))

  pub tells_five : (kind : ℕ) (ns : List ℕ) (b : Bool) → kind ≡ 5 → length ns ≡ count_of OfSpots kind → IsTrue b ↔ AreTouching d case (get_or ns 0 0) (get_or ns 1 0) → IsTrue b ↔ IsBySpot (kind ∷ ns)
  tells_five kind ns b e long tells =
      let two = long ∙ ap (count_of OfSpots) e in
      subst (λ k. IsTrue b ↔ IsBySpot (k ∷ ns)) (sym e) (λ yes. spot_by (Touching (get_or ns 0 0) (get_or ns 1 0)) 5 ns (tells.0 yes) (ships_told 5 ns two), λ by. tells.1 (by_five ns by))

-- the faults of a case, as they are tested
pub tells_case : (d : Deck) (case : Drawn) (trees : Trees) (kind : ℕ) (ns : List ℕ) (b : Bool) → trees ≡ OfCases → IsDrawn d case → length ns ≡ count_of trees kind → kind ≢ 0 → (kind ≡ 1 → IsTrue b ↔ HasOtherRank case.choices (get_or ns 0 0)) → (kind ≢ 1 → IsTrue b ↔ IsPositiveCycle case.edges ns) → IsTrue b ↔ IsFaultOf d trees case.choices (kind ∷ ns)
tells_case d case trees kind ns b of is count some rank walk =
    let long : length ns ≡ kind = count ∙ ap (λ t. count_of t kind) of in
    subst (λ t. IsTrue b ↔ IsFaultOf d t case.choices (kind ∷ ns)) (sym of) (elim (eqb_tells kind 1) [ inl y ↦ first y.1 long (rank y.1) | inr n ↦ other n.1 long (walk n.1) ])
  where
    first : kind ≡ 1 → length ns ≡ kind → IsTrue b ↔ HasOtherRank case.choices (get_or ns 0 0) → IsTrue b ↔ IsByCase d case.choices (kind ∷ ns)
    first e long tells = subst (λ k. IsTrue b ↔ IsByCase d case.choices (k ∷ ns)) (sym e) (λ yes. rank_by d case.choices ns (long ∙ e) (tells.0 yes), λ by. tells.1 (by_rank d case.choices ns (long ∙ e) by))

    other : kind ≢ 1 → length ns ≡ kind → IsTrue b ↔ IsPositiveCycle case.edges ns → IsTrue b ↔ IsByCase d case.choices (kind ∷ ns)
    other n long tells = (
      λ yes. walk_by d case.choices kind ns long some n (subst (λ es. IsPositiveCycle es ns) is.drawn (tells.0 yes)),
      λ by. tells.1 (subst (λ es. IsPositiveCycle es ns) (sym is.drawn) (by_walk d case.choices kind ns n by)),
    )
