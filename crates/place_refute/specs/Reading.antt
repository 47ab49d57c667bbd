-- Reading trees: a leaf's numbers begin with its kind, and the kind tells how many follow.
use Rattle.std.specs.Prelude.{ℕ, ◌≡◌, ◌≤◌, List, length, drop, nat_eq, if◌then◌else◌}
use Rattle.lock_model.specs.Deck.{Deck}
use Rattle.refute_rules.specs.declared.choices.Decision.{Decision}
use Rattle.refute_rules.specs.declared.choices.Choice.{Choice}
use Rattle.refute_rules.specs.Choices.{options_of, decisions, spot_decisions}
use Rattle.refute_rules.specs.Cases.{IsCaseFault, case_fault_numbers}
use Rattle.refute_rules.specs.SpotFaults.{IsSpotFault, spot_fault_numbers}
use Rattle.refute_rules.specs.Trees.{IsLeaf, IsTree}
use Rattle.place_refute.specs.declared.leaf.Trees.{Trees}
use Rattle.place_refute.specs.declared.leaf.Trees.TheVariants.{OfCases, OfSpots}

-- these numbers tell a fault of the case
pub record IsFaultBy {F : Type 0} (IsFault : List Choice → F → Type 0) (numbers_of : F → List ℕ) (case : List Choice) (numbers : List ℕ) : Type 0 where
  pub fault : F
  pub stands : IsFault case fault
  pub told : numbers_of fault ≡ numbers

abbrev pub IsFaultOf : Deck → Trees → List Choice → List ℕ → Type 0
IsFaultOf d OfCases case numbers = IsFaultBy (IsCaseFault d) case_fault_numbers case numbers
IsFaultOf d OfSpots case numbers = IsFaultBy (IsSpotFault d) spot_fault_numbers case numbers

-- how many numbers follow the kind of a leaf
abbrev pub count_of : Trees → ℕ → ℕ
count_of OfCases kind = kind
count_of OfSpots kind = if nat_eq kind 5 then 2 else 1

abbrev pub IsLeafOf : Deck → Trees → List Choice → List ℕ → List ℕ → Type 0
IsLeafOf d OfCases case marks rest = IsLeaf (IsCaseFault d) case_fault_numbers case marks rest
IsLeafOf d OfSpots case marks rest = IsLeaf (IsSpotFault d) spot_fault_numbers case marks rest

abbrev pub IsTreeOf : Deck → Trees → List Decision → List Choice → List ℕ → List ℕ → Type 0
IsTreeOf d OfCases left case marks rest = IsTree (options_of d) (IsCaseFault d) case_fault_numbers left case marks rest
IsTreeOf d OfSpots left case marks rest = IsTree (options_of d) (IsSpotFault d) spot_fault_numbers left case marks rest

-- a leaf stands at a place of the marks and ends at another
pub record IsLeafAt (d : Deck) (trees : Trees) (case : List Choice) (marks : List ℕ) (at end : ℕ) : Type 0 where
  pub inside : end ≤ length marks
  pub leaf : IsLeafOf d trees case (drop at marks) (drop end marks)

pub record HasNoLeafAt (d : Deck) (trees : Trees) (case : List Choice) (marks : List ℕ) (at : ℕ) : Type 0 where
  pub none : (rest : List ℕ) → IsLeafOf d trees case (drop at marks) rest → ⊥

-- a tree stands at a place of the marks and ends at another
pub record IsTreeAt (d : Deck) (trees : Trees) (left : List Decision) (case : List Choice) (marks : List ℕ) (at end : ℕ) : Type 0 where
  pub inside : end ≤ length marks
  pub tree : IsTreeOf d trees left case (drop at marks) (drop end marks)

pub record HasNoTreeAt (d : Deck) (trees : Trees) (left : List Decision) (case : List Choice) (marks : List ℕ) (at : ℕ) : Type 0 where
  pub none : (rest : List ℕ) → IsTreeOf d trees left case (drop at marks) rest → ⊥

-- the decisions of a tree
abbrev pub decisions_of : Trees → ℕ → List Decision
decisions_of OfCases n = decisions n
decisions_of OfSpots n = spot_decisions n
