use Rattle.replan.proofs.GoneLemmas.{gone_back, gone-comes}
use Rattle.replan.proofs.laws.plans_that_can_go_on.Goals as goal

pub returns : goal.returns
returns c = λ I R P M can rest W legal go. (gone_back I R P M can rest W legal go, gone-comes I R P M can rest W legal go)
