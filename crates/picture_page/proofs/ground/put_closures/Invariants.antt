use Rattle.std.proofs.Common.{◌≡◌, ◌++◌, take}
use Rattle.std.specs.List.{flat_map}
use Rattle.picture_page.specs.Ground.{closure_of}
use Rattle.picture_page.proofs.ground.put_closures.Given as goal

abbrev pub invariant-loop-closure : goal.invariant-loop-closure
invariant-loop-closure l = l.out.items ≡ l.initial.out.items ++ flat_map (closure_of l.axis) (take l.closure-index l.closure-items)
