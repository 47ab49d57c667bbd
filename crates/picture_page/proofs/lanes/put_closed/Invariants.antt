use Rattle.std.proofs.Common.{◌≡◌, ◌++◌, take}
use Rattle.std.specs.List.{flat_map}
use Rattle.picture_page.specs.Lanes.{closed_text}
use Rattle.picture_page.proofs.lanes.put_closed.Given as goal

abbrev pub invariant-loop-closure : goal.invariant-loop-closure
invariant-loop-closure l = l.out.items ≡ l.initial.out.items ++ flat_map (closed_text l.clock) (take l.closure-index l.closure-items)
