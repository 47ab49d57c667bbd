-- What the search of all cases gives.
use Rattle.std.specs.Prelude.{ℕ, List, []}
use Rattle.refute_rules.specs.declared.choices.Choice.{Choice}
use Rattle.refute_rules.specs.Listing.{cases_from, IsFirstWithin, HasNoneOf, HasMore}
use Rattle.refute_rules.specs.Trees.{IsTree}
use Rattle.case_search.specs.Rules.{Rules, IsTurn}
use Rattle.case_search.specs.declared.searching.Found.{Found}
use Rattle.case_search.specs.declared.searching.Found.TheVariants.{Whole, Refuted, Spent}

-- at most so many cases take a turn, none of them ends the search, and the marks are exactly one tree of the empty case
pub record IsRefutedBy {F : Type 0} (r : Rules F) (turns : ℕ) (marks : List ℕ) : Type 0 where
  pub none : HasNoneOf (IsTurn r) r.IsEnd turns (cases_from r.options r.decisions [])
  pub tree : IsTree r.options r.IsFault r.numbers_of r.decisions [] marks []

-- exact up to its turns; `end` is the case that the track holds then
abbrev pub IsFound : {F : Type 0} → Rules F → ℕ → List Choice → Found → Type 0
IsFound r turns end Whole = IsFirstWithin (IsTurn r) r.IsEnd turns (cases_from r.options r.decisions []) end
IsFound r turns end (Refuted marks) = IsRefutedBy r turns marks
IsFound r turns end Spent = HasMore (IsTurn r) r.IsEnd turns (cases_from r.options r.decisions [])
