use Rattle.mooring_rules.specs.PlanBreaks.{IsClear}
use Rattle.mooring_rules.proofs.PlanLemmas.{each-more}
use Rattle.mooring_rules.proofs.lockages.first_clashing.Goals as goal

pub loop-p-preserved : goal.loop-p-preserved
loop-p-preserved c =
    each-more (IsClear c.args.instance.now) c.args.plan.now c.loop-p.p c.index-lockages-p.result c.as_slice-lockages.result.now c.as_slice-lockages.ensures.value c.loop-p-test.true c.index-lockages-p.is
    c.loop-p.invariant c.in_default.ensures.none
