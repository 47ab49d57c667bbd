use Rattle.std.proofs.Common.{◌++◌, get_or, ap, ◌∙◌, subst, sym}
use Rattle.plan_print.proofs.TextLemmas.{flat_map_take_more}
use Rattle.picture_page.specs.Lanes.{lockage_box}
use Rattle.picture_page.specs.KnownPassages.{HasShips}
use Rattle.picture_page.proofs.lanes.put_boxes.Goals as goal

pub put_box-requires : goal.put_box-requires
put_box-requires c =
    subst (HasShips c.args.instance.now) (sym c.passage-item.is) (c.requires c.loop-passage.passage-index c.passage-item.result c.loop-passage-test.true)

pub loop-passage-preserved : goal.loop-passage-preserved
loop-passage-preserved c =
    let shown = lockage_box c.args.instance.now c.args.axis.now in
    let xs = c.args.line.now in
    let i = c.loop-passage.passage-index in
    c.in_ok-put_box.ensures
    ∙ ap (λ s. c.loop-passage.out.items ++ shown s) c.passage-item.is
    ∙ ap (λ t. t ++ shown (get_or xs i c.passage-item.result)) c.loop-passage.invariant
    ∙ flat_map_take_more shown c.args.out.now.items xs i c.passage-item.result c.loop-passage-test.true
