use Rattle.std.proofs.Common.{◌++◌, ap, ◌∙◌}
use Rattle.plan_print.proofs.TextLemmas.{flat_map_range_more}
use Rattle.picture_page.specs.Lanes.{lane_at}
use Rattle.picture_page.proofs.lanes.put_lanes.Goals as goal

pub loop-number-preserved : goal.loop-number-preserved
loop-number-preserved c =
    let shown = lane_at c.args.instance.now c.args.axis.now c.args.passages.now in
    c.in_ok-put_lane_at.ensures
    ∙ ap (λ t. t ++ shown c.loop-number.number) c.loop-number.invariant
    ∙ flat_map_range_more shown c.args.out.now.items c.loop-number.number
