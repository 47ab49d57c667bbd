use Rattle.std.proofs.Common.{ℕ, ◌<◌, slice_index_or}
use Rattle.ship_shapes.specs.Lanes.{AreCrowded}
use Rattle.ship_shapes.proofs.search.is_crowded_by.Given as goal

abbrev pub invariant-loop-other : goal.invariant-loop-other
invariant-loop-other l = (k : ℕ) → k < l.other-index → AreCrowded l.lane l.ship (slice_index_or l.chosen k 0)
