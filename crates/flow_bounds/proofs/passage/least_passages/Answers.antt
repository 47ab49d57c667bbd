use Rattle.std.proofs.Common.{arith}
use Rattle.flow_bounds.proofs.PassageLemmas.{no_plan_costs_less}
use Rattle.flow_bounds.proofs.passage.least_passages.Goals as goal

pub returns-clause-bound : goal.returns-clause-bound
returns-clause-bound c = λ P legal. omega (arith, c.passages_from.ensures.value, no_plan_costs_less c.args.instance.now P legal)
