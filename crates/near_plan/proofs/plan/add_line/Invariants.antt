use Rattle.std.proofs.Common.{◌≡◌}
use Rattle.near_plan.proofs.plan.add_line.Given as goal

abbrev pub invariant-loop-place : goal.invariant-loop-place
invariant-loop-place g l = g.F.Fitting.instance l.fitting ≡ l.instance
