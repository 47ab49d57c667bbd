use Rattle.std.proofs.Common.{◌≡◌, ◌++◌, drop}
use Rattle.std.specs.List.{flat_map}
use Rattle.line_text.specs.Printed.{line}
use Rattle.plan_text.specs.Printing.{berths_of}
use Rattle.plan_text.proofs.printing.put_berths.Given as goal

abbrev pub invariant-loop-place : goal.invariant-loop-place
invariant-loop-place l = l.out.items ++ flat_map line (berths_of l.instance l.ships (drop l.place l.ships) (drop l.place l.spots)) ≡ l.initial.out.items ++ flat_map line (berths_of l.instance l.ships l.ships l.spots)
