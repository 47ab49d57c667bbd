use Rattle.std.proofs.Common.{◌≡◌}
use Rattle.near_plan.specs.Rows.{IsDraft}
use Rattle.near_plan.proofs.near.better.Given as goal

abbrev pub invariant-loop-ship : goal.invariant-loop-ship
invariant-loop-ship g l = record {
  draft : IsDraft l.instance l.draft;
  same : g.F.Fitting.instance l.fitting ≡ l.instance;
}
