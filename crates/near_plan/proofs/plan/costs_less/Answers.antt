use Rattle.lock_rules.proofs.LegalLemmas.{legal-arrived}
use Rattle.near_plan.proofs.plan.costs_less.Goals as goal

pub cost-requires-clause-arrived : goal.cost-requires-clause-arrived
cost-requires-clause-arrived c = legal-arrived c.args.instance.now c.args.plan.now c.requires
