use Rattle.std.proofs.Common.{◌≡◌, ◌++◌, map, take}
use Rattle.std.specs.List.{flat_map}
use Rattle.line_text.specs.Printed.{line}
use Rattle.instance_text.specs.Canonical.{closing_words}
use Rattle.instance_text.proofs.print.put_chamber_closings.Given as goal

abbrev pub invariant-loop-closure : goal.invariant-loop-closure
invariant-loop-closure l = l.out.items ≡ l.initial.out.items ++ flat_map line (map (closing_words l.chamber.name) (take l.closure-index l.chamber.closures))
