use Rattle.std.proofs.Common.{◌≡◌, ◌+◌, length, sym, ap, subst, arith, rules}
use Rattle.price_groups.specs.Masks.{AreMarks, AreAllCompletable}
use Rattle.price_groups.proofs.MaskLemmas.{completable-first, completable-next}
use Rattle.price_groups.proofs.masks.completable_by_ship.Goals as goal

pub loop-ship-init : goal.loop-ship-init
loop-ship-init c = subst (AreAllCompletable c.args.case.now.instance.now c.args.case.now.depth c.args.sets.now 0) (sym c.new-completable.ensures.items) (completable-first c.args.case.now.instance.now c.args.case.now.depth c.args.sets.now)

pub loop-ship-preserved : goal.loop-ship-preserved
loop-ship-preserved c =
    let I = c.args.case.now.instance.now in
    let sets = c.args.sets.now in
    let n = c.loop-ship.ship in
    let same : c.deref.result.now ≡ c.in_ok-marks.marks.items = search rules in
    let marks = subst (AreMarks I sets (length sets)) (sym same) c.in_ok-marks.ensures in
    subst (AreAllCompletable I c.args.case.now.depth sets (n + 1)) (sym c.in_ok-append.ensures)
    (completable-next I c.args.case.now.depth sets n c.loop-ship.completable.items c.in_ok-completable_by_missing.field-0 (c.in_ok-completable_by_missing.ensures sets marks) c.loop-ship.invariant)

pub returns : goal.returns
returns c =
    let I = c.args.case.now.instance.now in
    let all : c.loop-ship.ship ≡ length I.ships = omega (arith, c.loop-ship-test.false, c.loop-ship.auto.ship-end, ap length c.as_slice.ensures.value) in
    subst (λ n. AreAllCompletable I c.args.case.now.depth c.args.sets.now n c.loop-ship.completable.items) all c.loop-ship.invariant
