use Rattle.std.proofs.Common.{◌≡◌, length, sym, ap, subst, arith}
use Rattle.price_groups.specs.Masks.{AreAllowed}
use Rattle.price_groups.proofs.MaskLemmas.{allowed-first}
use Rattle.price_groups.proofs.masks.allowed.Goals as goal

pub loop-ship-init : goal.loop-ship-init
loop-ship-init c =
    let case = c.args.case.now in
    subst (AreAllowed case.instance.now case.depth c.args.last 0) (sym c.new-ships.ensures.items) (allowed-first case.instance.now case.depth c.args.last)

pub returns : goal.returns
returns c =
    let case = c.args.case.now in
    let I = case.instance.now in
    let all : c.loop-ship.ship ≡ length I.ships = omega (arith, c.loop-ship-test.false, c.loop-ship.auto.ship-end, ap length c.as_slice.ensures.value) in
    subst (λ n. AreAllowed I case.depth c.args.last n c.loop-ship.ships.items) all c.loop-ship.invariant
