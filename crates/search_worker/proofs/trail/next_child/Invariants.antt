use Rattle.std.proofs.Common.{◌<◌, length, IfSome}
use Rattle.search_worker.proofs.trail.next_child.Given as goal

abbrev pub invariant-loop-number : goal.invariant-loop-number
invariant-loop-number l = IfSome l.next (λ child. child.number < length l.bounds)
