use Rattle.std.proofs.Common.{◌≡◌}
use Rattle.near_plan.specs.Rows.{IsDraft}
use Rattle.near_plan.proofs.stretches.better_stretches.Given as goal

abbrev pub invariant-loop-from : goal.invariant-loop-from
invariant-loop-from g l = record {
  draft : IsDraft l.instance l.draft;
  same : g.F.Fitting.instance l.fitting ≡ l.instance;
}
