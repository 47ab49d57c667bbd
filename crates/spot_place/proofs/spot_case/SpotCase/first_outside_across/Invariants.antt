use Rattle.std.proofs.Common.{ℕ, ◌<◌}
use Rattle.refute_rules.specs.SpotFaults.{IsOutsideAcross}
use Rattle.spot_place.specs.SpotCase.{case_on}
use Rattle.spot_place.proofs.spot_case.SpotCase.first_outside_across.Given as goal

abbrev pub invariant-loop-ship : goal.invariant-loop-ship
invariant-loop-ship l = (i : ℕ) → i < l.ship → IsOutsideAcross l.self.deck (case_on l.self) i → ⊥
