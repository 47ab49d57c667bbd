use Rattle.std.proofs.Common.{◌≡◌, ◌*◌, ◌≤◌, take}
use Rattle.ship_shapes.specs.Lanes.{along_of}
use Rattle.ship_shapes.proofs.jam.along_of.Given as goal

abbrev pub invariant-loop-ship : goal.invariant-loop-ship
invariant-loop-ship l = record {
  sum : l.along ≡ along_of l.lane (take l.ship-index l.ships);
  few : l.along ≤ 4294967296 * l.ship-index;
}
