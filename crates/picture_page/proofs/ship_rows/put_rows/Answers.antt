use Rattle.std.proofs.Common.{◌++◌, get_or, ap, ◌∙◌}
use Rattle.plan_print.proofs.TextLemmas.{flat_map_take_more}
use Rattle.picture_page.specs.ShipRows.{row_of}
use Rattle.picture_page.proofs.ship_rows.put_rows.Goals as goal

pub loop-ship-preserved : goal.loop-ship-preserved
loop-ship-preserved c =
    let shown = row_of c.args.instance.now c.args.axis.now c.args.passages.now in
    let xs = c.as_slice-ship-items.result.now in
    let i = c.loop-ship.ship-index in
    c.in_ok-put_row_among.ensures
    ∙ ap (λ t. t ++ shown (get_or xs i 0)) c.loop-ship.invariant
    ∙ flat_map_take_more shown c.args.out.now.items xs i 0 c.loop-ship-test.true
