use Rattle.chamber_place.specs.Spotting.{AreFirstSpots}
use Rattle.chamber_place.proofs.spotting.spots_of.Given as goal

abbrev pub invariant-loop-ship : goal.invariant-loop-ship
invariant-loop-ship l = AreFirstSpots l.choices l.values l.ship l.spots
