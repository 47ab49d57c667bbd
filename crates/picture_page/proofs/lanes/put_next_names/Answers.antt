use Rattle.std.proofs.Common.{◌++◌, get_or, ap, ◌∙◌}
use Rattle.plan_print.proofs.TextLemmas.{flat_map_take_more}
use Rattle.picture_page.specs.Lanes.{next_name}
use Rattle.picture_page.proofs.lanes.put_next_names.Goals as goal

pub loop-ship-preserved : goal.loop-ship-preserved
loop-ship-preserved c =
    let shown = next_name c.args.instance.now in
    let xs = c.args.ships.now in
    let i = c.loop-ship.ship-index in
    c.in_ok-put_next_name.ensures
    ∙ ap (λ t. t ++ shown (get_or xs i 0)) c.loop-ship.invariant
    ∙ flat_map_take_more shown c.args.out.now.items xs i 0 c.loop-ship-test.true
