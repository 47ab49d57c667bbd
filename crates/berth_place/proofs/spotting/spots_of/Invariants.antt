use Rattle.berth_place.specs.Spotting.{AreSpotsSoFar}
use Rattle.berth_place.proofs.spotting.spots_of.Given as goal

abbrev pub invariant-loop-ship : goal.invariant-loop-ship
invariant-loop-ship l = AreSpotsSoFar l.deck l.choices l.values l.ship l.spots
