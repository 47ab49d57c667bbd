use Rattle.std.proofs.Common.{◌≤◌, length}
use Rattle.replan.specs.Last.{IsLastFrom}
use Rattle.replan.proofs.standing.last_on.Given as goal

-- the last of the lockages from place `left` on
abbrev pub invariant-loop-left : goal.invariant-loop-left
invariant-loop-left l = record {
  last : IsLastFrom l.plan l.chamber l.left l.last;
  left : l.left ≤ length l.plan.lockages;
}

abbrev pub decreases-loop-left : goal.decreases-loop-left
decreases-loop-left l = l.left
