use Rattle.std.proofs.Common.{◌≡◌, ◌+◌, ◌<◌, length, sym, ap, subst, arith}
use Rattle.price_groups.specs.Asks.{LineAsk}
use Rattle.price_terms.specs.Cuts.{plain_cuts}
use Rattle.sweep_labels.specs.Coming.{ArriveIn}
use Rattle.sweep.specs.Ends.{ArriveInFirst}
use Rattle.sweep.proofs.EndLemmas.{lane_at, items_more, count_more}
use Rattle.sweep.proofs.sweeping.arrivals_of.Goals as goal

pub arrivals-requires : goal.arrivals-requires
arrivals-requires c =
    let asked = c.args.asked.now in
    let within : c.loop-place.place < length asked.instance.now.chambers = omega (arith, c.loop-place-test.true, ap length c.as_slice-place-end.ensures.value) in
    (lane_at asked c.args.lanes.now c.loop-place.place c.index-lanes-place.result c.requires within c.index-lanes-place.is).is

pub loop-place-preserved : goal.loop-place-preserved
loop-place-preserved c =
    let asked = c.args.asked.now in
    let I = asked.instance.now in
    let cuts = plain_cuts I asked.cuts.now in
    let n = c.loop-place.place in
    let own = c.in_ok-arrivals.arrivals in
    let all = c.loop-place.all.items in
    let within : n < length I.chambers = omega (arith, c.loop-place-test.true, ap length c.as_slice-place-end.ensures.value) in
    let is = lane_at asked c.args.lanes.now n c.index-lanes-place.result c.requires within c.index-lanes-place.is in
    let here : ArriveIn I cuts n own = subst (λ (ask : LineAsk). ArriveIn ask.instance ask.cuts ask.chamber own) is.ask c.in_ok-arrivals.ensures in
    subst (ArriveInFirst I cuts (n + 1)) (sym c.in_ok-append.ensures) (record {
      count = count_more all n own c.loop-place.invariant.count;
      each = items_more (ArriveIn I cuts) all n own c.loop-place.invariant.count c.loop-place.invariant.each here;
    })

pub returns : goal.returns
returns c =
    let asked = c.args.asked.now in
    let I = asked.instance.now in
    let all : c.loop-place.place ≡ length I.chambers = omega (arith, c.loop-place-test.false, c.loop-place.auto.place-end, ap length c.as_slice-place-end.ensures.value) in
    subst (λ n. ArriveInFirst I (plain_cuts I asked.cuts.now) n c.loop-place.all.items) all c.loop-place.invariant
