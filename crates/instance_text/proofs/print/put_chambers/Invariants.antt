use Rattle.std.proofs.Common.{◌≡◌, ◌++◌, map, take}
use Rattle.std.specs.List.{flat_map}
use Rattle.line_text.specs.Printed.{line}
use Rattle.instance_text.specs.Canonical.{chamber_words}
use Rattle.instance_text.proofs.print.put_chambers.Given as goal

abbrev pub invariant-loop-chamber : goal.invariant-loop-chamber
invariant-loop-chamber l = l.out.items ≡ l.initial.out.items ++ flat_map line (map chamber_words (take l.chamber-index l.chambers))
