use Rattle.std.proofs.Common.{arith, ◌∙◌, ◌-◌}
use Rattle.lock_rules.specs.Singles.{earlier}
use Rattle.first_plan.proofs.ChoiceLemmas.{choice_from-step}
use Rattle.first_plan.proofs.choice.choose.Goals as goal

pub loop-chamber-preserved : goal.loop-chamber-preserved
loop-chamber-preserved c =
    let step = choice_from-step c.args.instance.now c.args.ship (c.loop-chamber.chamber - 1) c.loop-chamber.chamber c.as_slice-standings.result.now c.index-standings-chamber.result _ (omega arith) (omega arith) c.index-standings-chamber.is in
    (omega arith, c.earlier-best.ensures ∙ (λ i. earlier (c.candidate.ensures i) (c.loop-chamber.invariant.1 i)) ∙ step)
