use Rattle.std.proofs.Common.{◌≡◌}
use Rattle.near_plan.specs.Rows.{IsDraft}
use Rattle.near_plan.proofs.near.better_by_stretches.Given as goal

abbrev pub invariant-loop : goal.invariant-loop
invariant-loop g l = record {
  draft : IsDraft l.instance l.draft;
  same : g.F.Fitting.instance l.fitting ≡ l.instance;
}
