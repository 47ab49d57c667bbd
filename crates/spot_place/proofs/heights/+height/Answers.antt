use Rattle.std.proofs.Common.{rules, ap, ◌∙◌, arith, ◌≡◌, suc, ◌-◌, pos, ◌+ℤ◌, ◌≤ℤ◌, Some, None}
use Rattle.refute_rules.specs.Known.{guest_y, y_within}
use Rattle.spot_place.specs.OnWay.{lying, berth_at}
use Rattle.spot_place.proofs.HeightLemmas.{y-low, y-high, y-undecided, y-quay, y-guest}
use Rattle.spot_place.proofs.heights.+height.Goals as goal

pub returns-then-ship-berths : goal.returns-then-ship-berths
returns-then-ship-berths t c = y-undecided c.args.deck.now c.args.berths.now c.args.ship c.args.steps c.if-ship-berths.true

pub returns-in-Quay : goal.returns-in-Quay
returns-in-Quay t c =
    let fewer : c.args.steps ≡ suc (c.args.steps - 1) = omega arith in
    let is : Some c.quay_y.result ≡ y_within c.args.deck.now (lying c.args.berths.now) c.args.steps c.args.ship =
    ap (λ y. Some y) c.quay_y.ensures ∙ y-quay c.args.deck.now c.args.berths.now c.args.ship c.args.steps (c.args.steps - 1) fewer c.if-ship-berths.false c.in-Quay.is in
    search rules

pub guest_y-requires-clause-low : goal.guest_y-requires-clause-low
guest_y-requires-clause-low t c =
    let low : pos 0 ≤ℤ (c.in-Some.y +ℤ pos 2000000) = y-low c.args.deck.now c.requires.deck (lying c.args.berths.now) (c.args.steps - 1) c.in-Ship.host c.in-Some.y (omega arith) c.in-Some.ensures in
    search rules

pub guest_y-requires-clause-high : goal.guest_y-requires-clause-high
guest_y-requires-clause-high t c =
    let high : c.in-Some.y ≤ℤ pos 2000000 = y-high c.args.deck.now c.requires.deck (lying c.args.berths.now) (c.args.steps - 1) c.in-Ship.host c.in-Some.y (omega arith) c.in-Some.ensures in
    search rules

pub returns-in-None : goal.returns-in-None
returns-in-None t c =
    let fewer : c.args.steps ≡ suc (c.args.steps - 1) = omega arith in
    y-guest c.args.deck.now c.args.berths.now c.args.ship c.args.steps (c.args.steps - 1) c.in-Ship.host None fewer c.if-ship-berths.false c.in-Ship.is c.in-None.ensures

pub returns-in-Some : goal.returns-in-Some
returns-in-Some t c =
    let fewer : c.args.steps ≡ suc (c.args.steps - 1) = omega arith in
    let e : c.guest_y.result ≡ guest_y c.args.deck.now c.args.ship c.in-Ship.host (berth_at c.args.berths.now c.args.ship).rank c.in-Some.y = search rules in
    let is : Some c.guest_y.result ≡ y_within c.args.deck.now (lying c.args.berths.now) c.args.steps c.args.ship =
    ap (λ y. Some y) e ∙ y-guest c.args.deck.now c.args.berths.now c.args.ship c.args.steps (c.args.steps - 1) c.in-Ship.host (Some c.in-Some.y) fewer c.if-ship-berths.false c.in-Ship.is c.in-Some.ensures in
    search rules
