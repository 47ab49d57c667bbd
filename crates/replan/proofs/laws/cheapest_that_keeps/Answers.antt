use Rattle.std.proofs.Common.{arith}
use Rattle.replan.specs.Kept.{kept_of}
use Rattle.replan.proofs.CostLemmas.{cost-joined}
use Rattle.replan.proofs.BackLemmas.{back, back-legal, back-cost}
use Rattle.replan.proofs.laws.cheapest_that_keeps.Goals as goal

pub returns : goal.returns
returns c = λ I R G M can rest Q P cheapest legal keeps.
    omega (
      arith,
      cost-joined I R (kept_of G M) M rest Q cheapest.legal,
      back-cost I R (kept_of G M) M rest can.legal P legal keeps,
      cheapest.least (back I R (kept_of G M) M rest can.legal P legal keeps) (back-legal I R (kept_of G M) M rest can.legal P legal keeps),
    )
