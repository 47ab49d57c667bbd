use Rattle.std.proofs.Common.{◌++◌, ap, ◌∙◌}
use Rattle.plan_print.proofs.TextLemmas.{flat_map_range_more}
use Rattle.picture_page.specs.Hulls.{hull_text}
use Rattle.picture_page.proofs.outlines.put_hulls.Goals as goal

pub loop-place-preserved : goal.loop-place-preserved
loop-place-preserved c =
    let shown = hull_text c.args.scale.now c.args.instance.now c.args.lockage.now in
    c.in_ok-put_hull.ensures
    ∙ ap (λ t. t ++ shown c.loop-place.place) c.loop-place.invariant
    ∙ flat_map_range_more shown c.args.out.now.items c.loop-place.place
