use Rattle.std.proofs.Common.{◌≤◌, length}
use Rattle.first_plan.proofs.joined.Joined.plan.Given as goal

abbrev pub invariant-loop-i : goal.invariant-loop-i
invariant-loop-i l = (length l.lockages ≤ l.i) × (l.served ≤ l.i)
