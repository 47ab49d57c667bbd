use Rattle.near_plan.specs.Rows.{IsDraft}
use Rattle.near_plan.proofs.stretches.take_out_all.Given as goal

abbrev pub invariant-loop-ship : goal.invariant-loop-ship
invariant-loop-ship l = IsDraft l.instance l.draft
