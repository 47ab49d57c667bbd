use Rattle.std.proofs.Common.{◌≡◌, ◌++◌, take}
use Rattle.std.specs.List.{flat_map}
use Rattle.line_text.specs.Printed.{line}
use Rattle.plan_text.specs.Printing.{lockage_lines}
use Rattle.plan_text.proofs.printing.put_lockages.Given as goal

abbrev pub invariant-loop-lockage : goal.invariant-loop-lockage
invariant-loop-lockage l = l.out.items ≡ l.initial.out.items ++ flat_map line (flat_map (lockage_lines l.instance) (take l.lockage-index l.lockages))
