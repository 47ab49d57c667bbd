use Rattle.std.proofs.Common.{◌≡◌, ◌++◌, take}
use Rattle.std.specs.List.{flat_map}
use Rattle.picture_page.specs.Lanes.{lockage_box}
use Rattle.picture_page.proofs.lanes.put_boxes.Given as goal

abbrev pub invariant-loop-passage : goal.invariant-loop-passage
invariant-loop-passage l = l.out.items ≡ l.initial.out.items ++ flat_map (lockage_box l.instance l.axis) (take l.passage-index l.line)
