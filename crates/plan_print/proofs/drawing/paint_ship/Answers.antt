use Rattle.std.proofs.Common.{arith}
use Rattle.plan_print.proofs.CellLemmas.{cells-painted}
use Rattle.plan_print.proofs.drawing.paint_ship.Goals as goal

pub returns-then-y-low : goal.returns-then-y-low
returns-then-y-low c =
    cells-painted c.args.size.now c.args.spot.now c.args.cell_length c.args.y c.args.letter c.args.cells.now c.fill.new.cells
    c.div_ceil.result c.div_ceil-then-y-low.result c.requires (omega arith) (omega arith) c.div_ceil.ensures c.div_ceil-then-y-low.ensures
    c.fill.ensures.inside c.fill.ensures.outside
