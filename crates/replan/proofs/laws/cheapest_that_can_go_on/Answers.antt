use Rattle.std.proofs.Common.{arith}
use Rattle.replan.proofs.AheadLemmas.{whole-cost}
use Rattle.replan.proofs.GoneLemmas.{gone_back, gone-legal, gone-cost}
use Rattle.replan.proofs.laws.cheapest_that_can_go_on.Goals as goal

pub returns : goal.returns
returns c = λ I R P M can rest Q W cheapest legal go.
    omega (
      arith,
      whole-cost I R P M can rest Q cheapest.legal,
      gone-cost I R P M can rest W legal go,
      cheapest.least (gone_back I R P M can rest W legal go) (gone-legal I R P M can rest W legal go),
    )
