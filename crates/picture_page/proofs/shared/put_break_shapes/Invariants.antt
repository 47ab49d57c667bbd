use Rattle.std.proofs.Common.{◌≡◌, ◌++◌, take}
use Rattle.std.specs.List.{flat_map}
use Rattle.picture_page.specs.Shared.{break_at}
use Rattle.picture_page.proofs.shared.put_break_shapes.Given as goal

abbrev pub invariant-loop-at : goal.invariant-loop-at
invariant-loop-at l = l.out.items ≡ l.initial.out.items ++ flat_map (break_at l.axis l.top l.bottom) (take l.at-index l.at-items)
