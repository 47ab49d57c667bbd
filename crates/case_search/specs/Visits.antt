-- What the visit of a case does: `a` turns were used before it and `b` after it.
use Rattle.std.specs.Prelude.{ℕ, ◌≡◌, ◌≤◌, List, [], ◌∷◌, ◌++◌, take, flat_map}
use Rattle.refute_rules.specs.declared.choices.Decision.{Decision}
use Rattle.refute_rules.specs.declared.choices.Choice.{Choice}
use Rattle.refute_rules.specs.Listing.{cases_from}
use Rattle.refute_rules.specs.Trees.{AreInOrder, IsTree}
use Rattle.case_search.specs.Rules.{Rules, IsTurn, left_of, options_at, cases_under}
use Rattle.case_search.specs.Counts.{NoneIn, FirstIn, MoreIn}
use Rattle.case_search.specs.declared.visits.Visit.{Visit}
use Rattle.case_search.specs.declared.visits.Visit.TheVariants.{Refuted, Whole, Spent}

-- the marks grew by a tree of the case
pub record GrewByTree {F : Type 0} (r : Rules F) (case : List Choice) (old new : List ℕ) : Type 0 where
  pub added : List ℕ
  pub is : new ≡ old ++ added
  pub tree : (rest : List ℕ) → IsTree r.options r.IsFault r.numbers_of (left_of r case) case (added ++ rest) rest

abbrev pub after_first : List Decision → List Decision
after_first [] = []
after_first (next ∷ left) = left

-- a tree of the case with one option more
abbrev pub IsTreeBelow : {F : Type 0} → Rules F → List Choice → Choice → List ℕ → List ℕ → Type 0
IsTreeBelow r case choice marks rest = IsTree r.options r.IsFault r.numbers_of (after_first (left_of r case)) (case ++ choice ∷ []) marks rest

-- the case with one option more and its extensions
abbrev pub cases_below : {F : Type 0} → Rules F → List Choice → Choice → List (List Choice)
cases_below r case choice = cases_from r.options (after_first (left_of r case)) (case ++ choice ∷ [])

-- the first n options are refuted: the marks grew by a 0 and their trees, and their cases are counted
pub record IsPassed {F : Type 0} (r : Rules F) (case : List Choice) (turns a b : ℕ) (old new : List ℕ) (n : ℕ) : Type 0 where
  pub inner : List ℕ
  pub is : new ≡ old ++ 0 ∷ inner
  pub trees : (rest : List ℕ) → AreInOrder (IsTreeBelow r case) (take n (options_at r case)) (inner ++ rest) rest
  pub none : NoneIn (IsTurn r) r.IsEnd a b (case ∷ flat_map (cases_below r case) (take n (options_at r case)))
  pub few : b ≤ turns

-- the case is refuted
pub record IsRefuted {F : Type 0} (r : Rules F) (case : List Choice) (a b : ℕ) (old new : List ℕ) (end : List Choice) : Type 0 where
  pub grew : GrewByTree r case old new
  pub none : NoneIn (IsTurn r) r.IsEnd a b (cases_under r case)
  pub back : end ≡ case

-- what a visit that ends at a case gives
abbrev pub IsVisit : {F : Type 0} → Rules F → List Choice → ℕ → ℕ → ℕ → List ℕ → List ℕ → List Choice → Visit → Type 0
IsVisit r case turns a b old new end Refuted = IsRefuted r case a b old new end
IsVisit r case turns a b old new end Whole = FirstIn (IsTurn r) r.IsEnd a b (cases_under r case) end
IsVisit r case turns a b old new end Spent = MoreIn (IsTurn r) r.IsEnd a turns (cases_under r case)
