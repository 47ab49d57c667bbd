use Rattle.std.proofs.Common.{◌≤◌, ◌*◌}
use Rattle.first_plan.proofs.merging.chamber_flow.Given as goal

abbrev pub invariant-loop-lockage : goal.invariant-loop-lockage
invariant-loop-lockage l = l.flow ≤ 68719476736 * l.lockage-index
