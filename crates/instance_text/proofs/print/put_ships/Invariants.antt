use Rattle.std.proofs.Common.{◌≡◌, ◌++◌, map, take}
use Rattle.std.specs.List.{flat_map}
use Rattle.line_text.specs.Printed.{line}
use Rattle.instance_text.specs.Canonical.{ship_words}
use Rattle.instance_text.proofs.print.put_ships.Given as goal

abbrev pub invariant-loop-ship : goal.invariant-loop-ship
invariant-loop-ship l = l.out.items ≡ l.initial.out.items ++ flat_map line (map ship_words (take l.ship-index l.ships))
