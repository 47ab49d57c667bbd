use Rattle.replan.proofs.AheadLemmas.{gone-on}
use Rattle.replan.proofs.laws.rests_go_on.Goals as goal

pub returns : goal.returns
returns c = λ I R P M can rest Q legal. gone-on I R P M can rest Q legal
