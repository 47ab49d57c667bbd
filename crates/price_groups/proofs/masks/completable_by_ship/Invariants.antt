use Rattle.price_groups.specs.Masks.{AreAllCompletable}
use Rattle.price_groups.proofs.masks.completable_by_ship.Given as goal

abbrev pub invariant-loop-ship : goal.invariant-loop-ship
invariant-loop-ship l = AreAllCompletable l.case.instance.now l.case.depth l.sets l.ship l.completable.items
