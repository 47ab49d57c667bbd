use Rattle.std.proofs.Common.{arith}
use Rattle.chamber_place.proofs.ranks.first_other_rank.Goals as goal

pub returns-clause-none : goal.returns-clause-none
returns-clause-none c i h = c.loop-ship.invariant i (omega (arith, h))
