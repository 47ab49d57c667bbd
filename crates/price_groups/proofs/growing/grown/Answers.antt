use Rattle.std.proofs.Common.{◌≡◌, length, ap, subst, arith}
use Rattle.price_groups.specs.Asked.{group_asked}
use Rattle.price_groups.specs.Growing.{AreGrown}
use Rattle.price_groups.proofs.growing.grown.Goals as goal

pub returns-clause-grown : goal.returns-clause-grown
returns-clause-grown c =
    let I = c.args.extension.now.case.now.instance.now in
    let n = c.args.extension.now.case.now.index in
    let k = c.args.extension.now.case.now.depth in
    let prices = c.args.extension.now.ceilings.now in
    let sets = c.args.extension.now.sets.now in
    let all : c.loop-ship.ship ≡ length I.ships = omega (arith, c.loop-ship-test.false, c.loop-ship.auto.ship-end, ap length c.as_slice.ensures.value) in
    subst (λ m. AreGrown (group_asked c.args.extension.now) c.args.base.now m c.loop-ship.groups.items) all c.loop-ship.invariant.grown
