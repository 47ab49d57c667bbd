use Rattle.berth_place.specs.Known.{AreSoundShips}
use Rattle.berth_place.proofs.spotting.whole_fault.Given as goal

abbrev pub invariant-loop-ship : goal.invariant-loop-ship
invariant-loop-ship l = AreSoundShips l.deck l.choices l.ship
