use Rattle.std.proofs.Common.{ℕ, ◌<◌}
use Rattle.master_branch.specs.Steps.{group_in}
use Rattle.cert_check.specs.Hitting.{AreTogether}
use Rattle.cert_check.proofs.hitting.hits_line.Given as goal

abbrev pub invariant-loop-group : goal.invariant-loop-group
invariant-loop-group l = (k : ℕ) → k < l.group-index → ¬ AreTogether l.ships (group_in l.line k)
