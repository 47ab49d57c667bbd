use Rattle.std.proofs.Common.{arith}
use Rattle.spot_place.proofs.spot_case.SpotCase.first_outside_across.Goals as goal

pub returns-clause-none : goal.returns-clause-none
returns-clause-none c = record { each = λ i h. c.loop-ship.invariant i (omega arith) }
