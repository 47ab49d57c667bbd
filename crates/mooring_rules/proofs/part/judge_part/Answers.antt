use Rattle.mooring_rules.proofs.PlanLemmas.{IsFirstBrokenPart-illegal}
use Rattle.mooring_rules.proofs.part.judge_part.Goals as goal

pub returns-in-Some-clause-none : goal.returns-in-Some-clause-none
returns-in-Some-clause-none c = (
  λ never. absurd (cc),
  λ legal. absurd (IsFirstBrokenPart-illegal c.args.instance.now c.args.part.now c.in-Some.broken c.in-Some.ensures.part legal),
)
