use Rattle.near_plan.specs.Rows.{IsDraft}
use Rattle.near_plan.proofs.stretches.put_back.Given as goal

abbrev pub invariant-loop-chamber : goal.invariant-loop-chamber
invariant-loop-chamber l = IsDraft l.instance l.draft
