use Rattle.std.proofs.Common.{◌≡◌, ◌++◌}
use Rattle.std.specs.List.{flat_map, range_with_len}
use Rattle.plan_print.specs.Drawing.{row_line}
use Rattle.plan_print.proofs.drawing.put_drawing.Given as goal

abbrev pub invariant-loop-row : goal.invariant-loop-row
invariant-loop-row l = l.out.items ≡ l.initial.out.items ++ flat_map (row_line l.deck l.spots) (range_with_len 0 l.row)
