use Rattle.std.proofs.Common.{◌≡◌, ◌++◌, take}
use Rattle.std.specs.List.{flat_map}
use Rattle.picture_page.specs.Ground.{wave}
use Rattle.picture_page.proofs.water.put_waves.Given as goal

abbrev pub invariant-loop-passage : goal.invariant-loop-passage
invariant-loop-passage l = l.out.items ≡ l.initial.out.items ++ flat_map (wave l.axis l.long) (take l.passage-index l.line)
