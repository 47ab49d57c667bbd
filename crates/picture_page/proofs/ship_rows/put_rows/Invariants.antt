use Rattle.std.proofs.Common.{◌≡◌, ◌++◌, take}
use Rattle.std.specs.List.{flat_map}
use Rattle.picture_page.specs.ShipRows.{row_of}
use Rattle.picture_page.proofs.ship_rows.put_rows.Given as goal

abbrev pub invariant-loop-ship : goal.invariant-loop-ship
invariant-loop-ship l = l.out.items ≡ l.initial.out.items ++ flat_map (row_of l.instance l.axis l.passages) (take l.ship-index l.ship-items)
