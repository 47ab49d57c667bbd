use Rattle.std.proofs.Common.{◌≡◌, ◌≤◌, ◌+◌, ◌*◌, ◌-◌, ◌++◌, length}
use Rattle.instance_text.specs.Lot.{lot_ships}
use Rattle.instance_text.proofs.lot.lot_ships.Given as goal

abbrev pub invariant-loop-i : goal.invariant-loop-i
invariant-loop-i l = record {
  few : length l.ships ≡ l.i;
  early : l.arrival ≤ 39 * l.i;
  same : l.ships ++ lot_ships (l.count - l.i) (l.i + 1) l.draws.state l.arrival ≡ lot_ships l.count 1 l.number 0;
}
