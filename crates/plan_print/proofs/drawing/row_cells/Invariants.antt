use Rattle.std.proofs.Common.{◌≡◌, ℕ, ◌*◌, ◌-◌, ◌<◌, length, get_or}
use Rattle.std.specs.List.{find, range_with_len}
use Rattle.plan_print.specs.Drawing.{covers_at, mark_of}
use Rattle.plan_print.proofs.drawing.row_cells.Given as goal

abbrev pub invariant-loop-i : goal.invariant-loop-i
invariant-loop-i l = record {
  size : length l.cells ≡ 200;
  cells : (k : ℕ) → k < 200 → get_or l.cells k 0 ≡ mark_of (find (covers_at l.sizes l.spots (k * l.cell_length) l.y) (range_with_len l.i (length l.sizes - l.i)));
}
