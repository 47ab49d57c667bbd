use Rattle.std.proofs.Common.{◌≡◌}
use Rattle.near_plan.specs.Rows.{IsDraft}
use Rattle.near_plan.proofs.keeping.keep_lines.Given as goal

abbrev pub invariant-loop-chamber : goal.invariant-loop-chamber
invariant-loop-chamber g l = record {
  draft : IsDraft l.instance l.draft;
  same : g.F.Fitting.instance l.fitting ≡ l.instance;
}
