use Rattle.std.proofs.Common.{◌≤◌}
use Rattle.sweep.proofs.late.later_than.Given as goal

abbrev pub invariant-loop-place : goal.invariant-loop-place
invariant-loop-place l = l.later ≤ l.place
