-- What a search through cases goes by, and what it asks of it.
use Rattle.std.specs.Prelude.{ℕ, ◌≡◌, ◌<◌, Bool, true, false, List, [], ◌∷◌, ◌++◌, length, take, drop, slice_index_or}
use Rattle.refute_rules.specs.declared.choices.Decision.{Decision}
use Rattle.refute_rules.specs.declared.choices.Choice.{Choice}
use Rattle.refute_rules.specs.declared.choices.Choice.TheVariants.{Before}
use Rattle.refute_rules.specs.Listing.{cases_from}

-- The decisions in order and their options; what a fault of a case is, and its numbers in a tree; which cases are good, that is without a fault,
-- and which of these end the search; and whether a faulty case takes a turn, where the case without its last option is good.
pub record Rules (F : Type 0) : Type 1 where
  pub options : Decision → List Choice
  pub decisions : List Decision
  pub IsFault : List Choice → F → Type 0
  pub numbers_of : F → List ℕ
  pub IsGood : List Choice → Type 0
  pub IsEnd : List Choice → Type 0
  pub counts_faulty : Bool

-- what the search rests on
pub record AreSoundRules {F : Type 0} (r : Rules F) : Type 0 where
  pub faulty : (case : List Choice) (fault : F) → r.IsFault case fault → r.IsGood case → ⊥
  pub shorter : r.counts_faulty ≡ false → (case more : List Choice) → r.IsGood (case ++ more) → r.IsGood case
  pub ends : (case : List Choice) → r.IsGood case → length case ≡ length r.decisions → r.IsEnd case
  pub complete : (case : List Choice) → r.IsEnd case → length case ≡ length r.decisions
  pub good_end : r.counts_faulty ≡ true → (case : List Choice) → r.IsEnd case → r.IsGood case

-- each proper beginning of the case is good
abbrev pub IsReached : (List Choice → Type 0) → List Choice → Type 0
IsReached IsGood case = (k : ℕ) → k < length case → IsGood (take k case)

-- the cases that take a turn: the good ones, or those that are reached
abbrev pub TakesTurn : Bool → (List Choice → Type 0) → List Choice → Type 0
TakesTurn false IsGood case = IsGood case
TakesTurn true IsGood case = IsReached IsGood case

abbrev pub IsTurn : {F : Type 0} → Rules F → List Choice → Type 0
IsTurn r case = TakesTurn r.counts_faulty r.IsGood case

-- the decisions that a case leaves
abbrev pub left_of : {F : Type 0} → Rules F → List Choice → List Decision
left_of r case = drop (length case) r.decisions

-- the options of the first of these decisions, none where there is none
abbrev pub options_first : (Decision → List Choice) → List Decision → List Choice
options_first options [] = []
options_first options (next ∷ left) = options next

abbrev pub options_at : {F : Type 0} → Rules F → List Choice → List Choice
options_at r case = options_first r.options (left_of r case)

-- the case with option number k of its next decision
abbrev pub with_option : {F : Type 0} → Rules F → List Choice → ℕ → List Choice
with_option r case k = case ++ slice_index_or (options_at r case) k (Before 0 0) ∷ []

-- the case and its extensions, in order
abbrev pub cases_under : {F : Type 0} → Rules F → List Choice → List (List Choice)
cases_under r case = cases_from r.options (left_of r case) case
