use Rattle.lock_rules.proofs.LegalLemmas.{legal-part}
use Rattle.mooring_rules.specs.declared.breaks.BrokenPlan.TheVariants.{Missing}
use Rattle.mooring_rules.proofs.PlanLemmas.{IsFirstBrokenPlan-illegal, IsLegal-whole}
use Rattle.mooring_rules.proofs.plan.judge_plan.Goals as goal

pub returns-in-Some-clause-none : goal.returns-in-Some-clause-none
returns-in-Some-clause-none c = (
  λ never. absurd (cc),
  λ legal. absurd (IsFirstBrokenPlan-illegal c.args.instance.now c.args.plan.now c.in-Some.broken c.in-Some.ensures.whole legal),
)

pub returns-in-Some-first_missing-clause-none : goal.returns-in-Some-first_missing-clause-none
returns-in-Some-first_missing-clause-none c = (
  λ never. absurd (cc),
  λ legal.
      absurd (IsFirstBrokenPlan-illegal c.args.instance.now c.args.plan.now (Missing c.in-Some-first_missing.ship)
      (c.in_default.ensures.shaped, c.in_default.ensures.single, c.in-Some-first_missing.ensures.some)
      legal),
)

pub returns-clause-none : goal.returns-clause-none
returns-clause-none c = (
  λ none. IsLegal-whole c.args.instance.now c.args.plan.now (c.judge_lockages.ensures.none.0 none) c.in_default-first_missing.ensures.none,
  λ legal. c.judge_lockages.ensures.none.1 (legal-part c.args.instance.now c.args.plan.now legal),
)
