use Rattle.std.proofs.Common.{ℕ, ◌<◌}
use Rattle.ship_shapes.specs.Jams.{IsCrowdedAfter}
use Rattle.ship_shapes.proofs.jam.are_all_crowded.Given as goal

abbrev pub invariant-loop-i : goal.invariant-loop-i
invariant-loop-i l = (k : ℕ) → k < l.i → IsCrowdedAfter l.lane l.ships k
