use Rattle.std.proofs.Common.{◌++◌, ap, ◌∙◌}
use Rattle.plan_print.specs.Drawing.{row_line}
use Rattle.plan_print.proofs.TextLemmas.{flat_map_range_more}
use Rattle.plan_print.proofs.drawing.put_drawing.Goals as goal

pub loop-row-preserved : goal.loop-row-preserved
loop-row-preserved c =
    c.in_ok-put_row.ensures
    ∙ ap (λ t. t ++ row_line c.args.deck.now c.args.spots.now c.loop-row.row) c.loop-row.invariant
    ∙ flat_map_range_more (row_line c.args.deck.now c.args.spots.now) c.reserve.new.self.items c.loop-row.row
