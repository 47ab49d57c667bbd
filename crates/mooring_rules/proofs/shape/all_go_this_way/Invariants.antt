use Rattle.std.proofs.Common.{ℕ, ◌<◌, slice_index_or}
use Rattle.mooring_rules.specs.PlanBreaks.{GoesThisWay}
use Rattle.mooring_rules.proofs.shape.all_go_this_way.Given as goal

abbrev pub invariant-loop-ship : goal.invariant-loop-ship
invariant-loop-ship l = (k : ℕ) → k < l.ship-index → GoesThisWay l.instance l.way (slice_index_or l.ships k 0)
