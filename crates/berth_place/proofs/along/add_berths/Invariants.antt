use Rattle.std.proofs.Common.{◌≡◌, ◌*◌, ◌≤◌, length}
use Rattle.berth_place.specs.Along.{first_edges}
use Rattle.berth_place.proofs.along.add_berths.Given as goal

abbrev pub invariant-loop-ship : goal.invariant-loop-ship
invariant-loop-ship l = record {
  drawn : l.edges ≡ first_edges l.deck l.choices l.ship;
  room : length l.edges ≤ 4 * l.ship;
}
