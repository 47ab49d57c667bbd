use Rattle.std.proofs.Common.{ℕ, ◌<◌, slice_index_or}
use Rattle.ship_shapes.specs.Lanes.{AreCrowded}
use Rattle.ship_shapes.proofs.jam.is_crowded_after.Given as goal

abbrev pub invariant-loop-j : goal.invariant-loop-j
invariant-loop-j l = (k : ℕ) → l.i < k → k < l.j → AreCrowded l.lane (slice_index_or l.ships l.i 0) (slice_index_or l.ships k 0)
