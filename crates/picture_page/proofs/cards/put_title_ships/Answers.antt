use Rattle.std.proofs.Common.{◌++◌, ap, ◌∙◌}
use Rattle.plan_print.proofs.TextLemmas.{flat_map_range_more}
use Rattle.picture_page.specs.Cards.{title_ship}
use Rattle.picture_page.proofs.cards.put_title_ships.Goals as goal

pub loop-place-preserved : goal.loop-place-preserved
loop-place-preserved c =
    let shown = title_ship c.args.instance.now c.args.lockage.now in
    c.in_ok-put_title_ship.ensures
    ∙ ap (λ t. t ++ shown c.loop-place.place) c.loop-place.invariant
    ∙ flat_map_range_more shown c.args.out.now.items c.loop-place.place
