use Rattle.std.proofs.Common.{◌≡◌, ◌<◌, length, All, ◌∙◌, subst, arith, to_z, of_z, w64}
use Rattle.std.proofs.lemmas.Int.{ints}
use Rattle.std.proofs.lemmas.List.Elements.{All-weaker}
use Rattle.lock_model.specs.declared.limits.TheConstants.{SHIPS}
use Rattle.price_groups.specs.Asked.{line_asked}
use Rattle.sweep_arcs.specs.Lanes.{IsGainAt}
use Rattle.sweep_arcs.proofs.ListLemmas.{arc-worth}
use Rattle.sweep_arcs.proofs.listing.arc_of.Goals as goal

pub returns-clause-arc : goal.returns-clause-arc
returns-clause-arc c =
    let L = line_asked c.args.case.now in
    let own = c.requires.group in
    let ships = c.args.one.now.group.ships in
    let small : All (λ s. s < SHIPS) ships = All-weaker (λ s. s < length L.instance.ships) (λ s. s < SHIPS) (λ s known. omega (arith, known, L.instance.limits.ship_count.1)) ships own.known in
    let worth = c.in_ok-worth.worth in
    let least = c.in_ok-worth.ensures.least in
    let rounded : to_z w64 (of_z w64 worth) ≡ worth = omega (arith, ints, c.in_ok-worth.ensures.fits, least, c.flow_until.ensures.small, c.group_times-start.ensures.small, c.charge-charged.ensures.small) in
    let gains : IsGainAt L c.other_way.result c.group_times-start.result.1 c.in_ok-gain.gain = subst (λ ask. IsGainAt ask c.other_way.result c.group_times-start.result.1 c.in_ok-gain.gain) c.requires.asked c.in_ok-gain.ensures.gain in
    arc-worth L c.args.minute c.args.one.now.group c.stand_before-from.result c.other_way.result c.args.one.now.sums.mask c.group_times-start.result.0 c.group_times-start.result.1
    c.paid-prices.result c.charge-charged.result c.in_ok-gain.gain c.in_ok-minute_of.field-0 c.in_ok-minute_of-2.field-0 c.in_ok-flow.flow worth (to_z w64 (of_z w64 worth))
    (omega (arith, L.instance.limits.ship_count.1)) own.known own.mask
    c.stand_before-from.ensures c.group_times-start.ensures.start c.group_times-start.ensures.end
    c.in_ok-minute_of.ensures c.in_ok-minute_of-2.ensures (c.in_ok-flow.ensures ∙ c.flow_until.ensures.value) c.paid-prices.ensures.value (c.charge-charged.ensures.value ships own.mask small)
    c.other_way.ensures gains.from least rounded
