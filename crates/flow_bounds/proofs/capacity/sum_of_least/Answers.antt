use Rattle.std.proofs.Common.{◌≡◌, ◌+◌, ◌-◌, ◌<◌, suc, length, All, arith, subst}
use Rattle.std.proofs.lemmas.List.Elements.{All-set, All-weaker}
use Rattle.flow_bounds.specs.Places.{IsEnough, no_places, places_at}
use Rattle.flow_bounds.proofs.PlacesLemmas.{take-least, enough-less}
use Rattle.flow_bounds.proofs.capacity.sum_of_least.Goals as goal

pub loop-preserved : goal.loop-preserved
loop-preserved c =
    let ps = c.loop.all in
    let i = c.first_of-first.result in
    let q = c.without_first.result in
    let n = c.args.count - (c.loop.counter + 1) in
    let less : i < length ps = c.first_of-first.ensures.within in
    let count : c.args.count - c.loop.counter ≡ suc n = omega arith in
    let enough : All (IsEnough (suc n)) ps = subst (λ k. All (IsEnough k) ps) count c.loop.invariant.enough in
    let own : IsEnough (suc n) (places_at ps i) = enough i no_places less in
    record {
      rest = omega (arith, c.loop.invariant.rest, take-least ps i n (c.args.count - c.loop.counter) q less count c.without_first.ensures.value c.first_of-first.ensures.least);
      enough = All-set (IsEnough n) ps i q (c.without_first.ensures.enough n own) (All-weaker (IsEnough (suc n)) (IsEnough n) (enough-less n) ps enough);
      small = omega (arith, own.minute, c.loop.invariant.small);
    }
