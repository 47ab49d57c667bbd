use Rattle.std.proofs.Common.{◌≡◌, ◌+◌, length, sym, ap, subst, arith}
use Rattle.price_groups.specs.Sums.{AreRates}
use Rattle.price_groups.proofs.RateLemmas.{rates-first, rates-next}
use Rattle.price_groups.proofs.weighing.rates.Goals as goal

pub loop-ship-init : goal.loop-ship-init
loop-ship-init c =
    let case = c.args.case.now in
    subst (AreRates case.instance.now case.depth c.args.prices.now 0) (sym c.new-rates.ensures.items) (rates-first case.instance.now case.depth c.args.prices.now)

pub loop-ship-preserved : goal.loop-ship-preserved
loop-ship-preserved c =
    let case = c.args.case.now in
    let I = case.instance.now in
    let n = c.loop-ship.ship in
    subst (AreRates I case.depth c.args.prices.now (n + 1)) (sym c.in_ok-append.ensures)
    (rates-next I case.depth c.args.prices.now n c.rate.result c.loop-ship.rates.items c.rate.ensures.value c.rate.ensures.small c.loop-ship.invariant)

pub returns : goal.returns
returns c =
    let case = c.args.case.now in
    let I = case.instance.now in
    let all : c.loop-ship.ship ≡ length I.ships = omega (arith, c.loop-ship-test.false, c.loop-ship.auto.ship-end, ap length c.as_slice.ensures.value) in
    subst (λ n. AreRates I case.depth c.args.prices.now n c.loop-ship.rates.items) all c.loop-ship.invariant
