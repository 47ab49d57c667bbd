use Rattle.std.proofs.Common.{◌≡◌, ◌++◌}
use Rattle.master_branch.specs.Steps.{opens_at}
use Rattle.master_branch.proofs.step.push_opens.Given as goal

abbrev pub invariant-loop-place : goal.invariant-loop-place
invariant-loop-place l = l.steps ≡ l.initial.steps ++ opens_at l.chamber l.place
