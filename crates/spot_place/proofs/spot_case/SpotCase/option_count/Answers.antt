use Rattle.std.proofs.Common.{sym, ap, ◌∙◌, List, length, arith, ◌<◌, ◌≤◌}
use Rattle.refute_rules.specs.declared.choices.Choice.{Choice}
use Rattle.deck_cases.proofs.OptionLemmas.{berth_count}
use Rattle.spot_place.proofs.OptionLemmas.{place-count}
use Rattle.spot_place.proofs.KeptLemmas.{shown-berths}
use Rattle.spot_place.proofs.TakeLemmas.{next-berth, next-place, next-none}
use Rattle.spot_place.proofs.spot_case.SpotCase.option_count.Goals as goal

pub returns-then-wants_place : goal.returns-then-wants_place
returns-then-wants_place c =
    let s = c.args.self.now in
    c.value_count.ensures ∙ sym (ap (λ (cs : List Choice). length cs) (next-place s c.wants_place.ensures.way (c.wants_place.ensures.wants.0 c.if-wants_place.true)) ∙ place-count s.deck (length s.places))

pub returns-then-len-ships : goal.returns-then-len-ships
returns-then-len-ships c =
    let s = c.args.self.now in
    let i = c.self.inside in
    let shown = shown-berths i.deck i.values i.berths.items i.places.items i.levels.items c.self.invariant s c.self.view_is in
    let room : length s.berths < length s.deck.ships = omega (arith, shown) in
    let all = ap (λ (cs : List Choice). length cs) (next-berth s c.wants_place.ensures.way (c.wants_place.ensures.even c.if-wants_place.false) room) ∙ berth_count s.deck (length s.berths) room in
    omega (arith, all)

pub returns : goal.returns
returns c =
    let s = c.args.self.now in
    let i = c.self.inside in
    let shown = shown-berths i.deck i.values i.berths.items i.places.items i.levels.items c.self.invariant s c.self.view_is in
    let full : length s.deck.ships ≤ length s.berths = omega (arith, shown) in
    sym (ap (λ (cs : List Choice). length cs) (next-none s c.wants_place.ensures.way (c.wants_place.ensures.even c.if-wants_place.false) full))
