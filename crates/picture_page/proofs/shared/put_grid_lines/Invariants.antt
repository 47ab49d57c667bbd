use Rattle.std.proofs.Common.{◌≡◌, ◌++◌, take}
use Rattle.std.specs.List.{flat_map}
use Rattle.picture_page.specs.Shared.{grid_line}
use Rattle.picture_page.proofs.shared.put_grid_lines.Given as goal

abbrev pub invariant-loop-tick : goal.invariant-loop-tick
invariant-loop-tick l = l.out.items ≡ l.initial.out.items ++ flat_map (grid_line l.height) (take l.tick-index l.ticks)
