use Rattle.std.proofs.Common.{below_more}
use Rattle.spot_place.proofs.spot_case.SpotCase.two_touching.Goals as goal

pub loop-ship-preserved : goal.loop-ship-preserved
loop-ship-preserved c = below_more _ _ c.loop-ship.invariant c.in_default.ensures.none
