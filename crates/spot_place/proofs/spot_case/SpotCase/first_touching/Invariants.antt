use Rattle.std.proofs.Common.{ℕ, ◌<◌}
use Rattle.refute_rules.specs.SpotFaults.{AreTouching}
use Rattle.spot_place.specs.SpotCase.{case_on}
use Rattle.spot_place.proofs.spot_case.SpotCase.first_touching.Given as goal

abbrev pub invariant-loop-other : goal.invariant-loop-other
invariant-loop-other l = (i : ℕ) → i < l.other → AreTouching l.self.deck (case_on l.self) l.ship i → ⊥
