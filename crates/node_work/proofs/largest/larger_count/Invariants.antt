use Rattle.std.proofs.Common.{◌≤◌}
use Rattle.node_work.proofs.largest.larger_count.Given as goal

abbrev pub invariant-loop-other : goal.invariant-loop-other
invariant-loop-other l = l.count ≤ l.other-index
