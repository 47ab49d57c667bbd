use Rattle.std.proofs.Common.{◌≡◌, ◌++◌, take}
use Rattle.std.specs.List.{flat_map}
use Rattle.plan_print.specs.Report.{ship_line_at}
use Rattle.plan_print.proofs.lockage.put_ship_lines.Given as goal

abbrev pub invariant-loop-place : goal.invariant-loop-place
invariant-loop-place l = l.out.items ≡ l.initial.out.items ++ flat_map (ship_line_at l.instance l.lockage) (take l.place-index l.place-items)
