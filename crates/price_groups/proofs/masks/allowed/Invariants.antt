use Rattle.price_groups.specs.Masks.{AreAllowed}
use Rattle.price_groups.proofs.masks.allowed.Given as goal

abbrev pub invariant-loop-ship : goal.invariant-loop-ship
invariant-loop-ship l = AreAllowed l.case.instance.now l.case.depth l.last l.ship l.ships.items
