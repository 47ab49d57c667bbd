use Rattle.std.proofs.Common.{arith, ap, sym, ◌∙◌, ◌*◌, ◌-◌, length, get_or, refl}
use Rattle.std.proofs.lemmas.List.{get_or-replicate}
use Rattle.plan_print.specs.Drawing.{covers_at, mark_of}
use Rattle.plan_print.proofs.CellLemmas.{cell-more, find-past}
use Rattle.plan_print.proofs.drawing.row_cells.Goals as goal

pub loop-i-init : goal.loop-i-init
loop-i-init c = record {
  size = refl;
  cells = λ k less. get_or-replicate 200 k 46 0 less ∙ ap mark_of (sym (find-past (covers_at c.args.sizes.now c.args.spots.now (k * c.args.cell_length) c.args.y) (length c.args.sizes.now)));
}

pub loop-i-preserved : goal.loop-i-preserved
loop-i-preserved c = record {
  size = omega arith;
  cells = λ k less.
      cell-more c.args.sizes.now c.args.spots.now (c.loop-i.i - 1) c.loop-i.i (k * c.args.cell_length) c.args.y c.letter.result (get_or c.loop-i.cells k 0) (get_or c.paint_ship.new.cells k 0)
      (omega arith) (omega arith) c.letter.ensures (c.loop-i.invariant.cells k less) (c.paint_ship.ensures k (omega arith));
}
