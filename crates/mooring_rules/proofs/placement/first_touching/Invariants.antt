use Rattle.std.proofs.Common.{ℕ, ◌<◌}
use Rattle.lock_model.specs.Placement.{IsApartFromLater}
use Rattle.mooring_rules.proofs.placement.first_touching.Given as goal

abbrev pub invariant-loop-i : goal.invariant-loop-i
invariant-loop-i l = (k : ℕ) → k < l.i → IsApartFromLater l.deck l.spots k
