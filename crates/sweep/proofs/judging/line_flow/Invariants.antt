use Rattle.std.proofs.Common.{◌≡◌, ◌+◌, drop}
use Rattle.lock_rules.specs.Bound.{flow_of, line_flow}
use Rattle.sweep.proofs.judging.line_flow.Given as goal

abbrev pub invariant-loop-place : goal.invariant-loop-place
invariant-loop-place l = l.flow + flow_of l.instance (drop l.place l.line) (drop l.place l.times) ≡ line_flow l.instance l.chamber l.line
