use Rattle.std.proofs.Common.{ℕ, ◌<◌, slice_index_or}
use Rattle.sweep.specs.Judging.{IsOfWay}
use Rattle.sweep.proofs.judging.are_of_way.Given as goal

abbrev pub invariant-loop-ship : goal.invariant-loop-ship
invariant-loop-ship l = (k : ℕ) → k < l.ship-index → IsOfWay l.instance l.way (slice_index_or l.ships k 0)
