use Rattle.std.proofs.Common.{◌<◌, length, sym, ap, ◌∙◌, arith}
use Rattle.std.proofs.lemmas.List.{get_or_default}
use Rattle.std.specs.Str.{bytes_eq}
use Rattle.lock_model.specs.Fleet.{no_ship}
use Rattle.lock_model.specs.declared.ship.Ship.{Ship}
use Rattle.plan_text.specs.Words.{ship_named}
use Rattle.plan_text.proofs.NamedLemmas.{ship_at_name, no_ship_named}
use Rattle.plan_text.proofs.named.ship_named.Goals as goal

pub returns-then-eq : goal.returns-then-eq
returns-then-eq c =
    let ships = c.as_slice-ships.result.now in
    let within : c.loop-place.place < length ships = omega arith in
    let ship = get_or_default ships c.loop-place.place c.index-ships-place.result no_ship within in
    let name = c.as_slice.ensures.value ∙ ap (λ (x : Ship). x.name) ship in
    sym (ap (λ cs. ship_named cs c.args.word.now) (sym c.as_slice-ships.ensures.value)
    ∙ ship_at_name ships c.args.word.now c.loop-place.place within c.loop-place.invariant (ap (bytes_eq c.args.word.now) (sym name) ∙ sym c.eq.ensures ∙ c.if-eq.true))

pub returns : goal.returns
returns c =
    let ships = c.as_slice-ships.result.now in
    sym (ap (λ cs. ship_named cs c.args.word.now) (sym c.as_slice-ships.ensures.value)
    ∙ no_ship_named ships c.args.word.now c.loop-place.place (omega arith) (omega arith) c.loop-place.invariant)
