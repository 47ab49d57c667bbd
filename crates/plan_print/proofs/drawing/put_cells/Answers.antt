use Rattle.std.proofs.Common.{◌++◌, ◌*◌, ap, arith, rules}
use Rattle.std.proofs.lemmas.Result.{IfOk-equal}
use Rattle.plan_print.proofs.CellLemmas.{cells-of_row}
use Rattle.plan_print.proofs.drawing.put_cells.Goals as goal

pub returns : goal.returns
returns c =
    IfOk-equal c.put.result _ _ _ c.put.ensures
    (ap (λ xs. c.args.out.now.items ++ xs)
    (cells-of_row c.args.deck.now c.args.spots.now c.args.row c.as_slice.result.now c.as_slice-2.result.now c.cell_length.result (c.args.row * c.cell_width.result) c.row_cells-cells.result c.columns_of-columns.result
    (search rules) c.as_slice-2.ensures.value c.cell_length.ensures.value (ap (λ w. c.args.row * w) c.cell_width.ensures.value) c.columns_of-columns.ensures.value c.columns_of-columns.ensures.small (omega arith) c.row_cells-cells.ensures))
