use Rattle.std.proofs.Common.{rules, arith}
use Rattle.std.proofs.lemmas.Int.{ints}
use Rattle.lock_model.specs.Deck.{IsDeck}
use Rattle.berth_place.proofs.WholeLemmas.{y_decided, y_inside}
use Rattle.berth_place.proofs.spotting.y_at.Goals as goal

pub small-requires-clause-low : goal.small-requires-clause-low
small-requires-clause-low c =
    let at = y_inside c.args.deck.now c.args.choices.now c.requires.whole c.args.ship c.requires.ship c.in-Some.y c.in-Some.ensures.value in
    let same = at.1 in
    omega (arith, ints, same)

pub small-requires-clause-high : goal.small-requires-clause-high
small-requires-clause-high c =
    let limits : IsDeck c.args.deck.now = search rules in
    let at = y_inside c.args.deck.now c.args.choices.now c.requires.whole c.args.ship c.requires.ship c.in-Some.y c.in-Some.ensures.value in
    let same = at.1 in
    let far = at.2 in
    let wide = limits.wide in
    omega (arith, ints, same, far, wide.1)

pub unreachable-requires : goal.unreachable-requires
unreachable-requires c = y_decided c.args.deck.now c.args.choices.now c.requires.whole c.args.ship c.requires.ship c.in-None.ensures.value
