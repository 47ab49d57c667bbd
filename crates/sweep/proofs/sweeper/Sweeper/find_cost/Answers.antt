use Rattle.std.proofs.Common.{◌<◌, length, refl, sym, ap, ◌∙◌, subst, slice_index_or}
use Rattle.std.proofs.lemmas.List.{get_or_default}
use Rattle.sweep_labels.specs.declared.ship_set.ShipSet.{ShipSet}
use Rattle.sweep_labels.specs.Labels.{label_of}
use Rattle.sweep_labels.specs.Ships.{is_in}
use Rattle.sweep_labels.specs.Steps.{AllRaised}
use Rattle.sweep_split.specs.Split.{HasLateCost}
use Rattle.sweep.specs.declared.late.LateShips.{LateShips}
use Rattle.sweep.specs.declared.late_bound.LateCosts.{LateCosts}
use Rattle.sweep.specs.Bounds.{cuts_of}
use Rattle.sweep.specs.Late.{times_from, AreLateCosts}
use Rattle.sweep.proofs.GrownLemmas.{sound_same}
use Rattle.sweep.proofs.LateLemmas.{late_is, late_low, costs_more}
use Rattle.sweep.proofs.sweeper.Sweeper.find_cost.Goals as goal

pub returns-clause-sound : goal.returns-clause-sound
returns-clause-sound c =
    let case = c.args.case.now in
    let known = c.args.self.now.known in
    let after = c.late_cost.new.self.known in
    let sound = c.in_ok-cost.ensures.sound in
    let cost = c.in_ok-cost.cost in
    let label = c.first_late-label.result in
    let late = slice_index_or known.late.now c.args.place c.index-self-place.result in
    let raised : AllRaised (times_from known.first) case.arrivals.now label.served.bits (length case.instance.now.chambers) label.ready =
    subst (λ (set : ShipSet). AllRaised (times_from known.first) case.arrivals.now set.bits (length case.instance.now.chambers) label.ready) (sym c.first_late-label.ensures.served) c.first_late-label.ensures.raised in
    let is =
    late_is case known.first label late.ships.bits c.requires.sound.arrive c.first_late-label.ensures.flow
    (λ s ship. ap (λ (set : ShipSet). is_in set.bits s) c.first_late-label.ensures.served ∙ c.all_but-served.ensures s ship) raised in
    let low = late_low case known.first label late.ships.bits cost is c.in_ok-cost.ensures.none in
    let here : (d : LateShips) → HasLateCost case.instance.now (cuts_of case) (is_in (slice_index_or known.late.now (length known.costs.items) d).ships.bits) (label_of known.first).ready cost =
    λ d. subst (λ (l : LateShips). HasLateCost case.instance.now (cuts_of case) (is_in l.ships.bits) (label_of known.first).ready cost)
    (get_or_default known.late.now c.args.place c.index-self-place.result d c.requires.within ∙ ap (λ n. slice_index_or known.late.now n d) c.requires.place) low in
    let within : length known.costs.items < length known.late.now = subst (λ n. n < length known.late.now) c.requires.place c.requires.within in
    let costs =
    costs_more case after.late.now after.first after.costs.items cost (subst (λ (k : LateCosts). length k.costs.items < length k.late.now) (sym c.in_ok-cost.ensures.known) within) sound.guided.costs
    (subst (λ (k : LateCosts). (d : LateShips) → HasLateCost case.instance.now (cuts_of case) (is_in (slice_index_or k.late.now (length k.costs.items) d).ships.bits) (label_of k.first).ready cost)
    (sym c.in_ok-cost.ensures.known) here) in
    sound_same case c.late_cost.new.self _ sound
    (record { lanes = sound.guided.lanes; first = sound.guided.first; costs = subst (AreLateCosts case after.late.now after.first) (sym c.in_ok-append.ensures) costs }) refl
