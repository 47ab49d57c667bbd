use Rattle.solve_workers.proofs.OpeningLemmas.{never_refused}
use Rattle.solve_workers.proofs.solving.opening_plan.Goals as goal

pub unreachable-requires : goal.unreachable-requires
unreachable-requires c = never_refused c.case.inside.instance c.in-Err-Unfit.field-0 c.in-Err-Unfit.field-0-0 c.case.invariant.fit c.in-Err-Unfit.ensures.refused c.in-Err-Unfit.field-0-is
