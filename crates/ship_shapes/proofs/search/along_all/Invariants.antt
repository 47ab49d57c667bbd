use Rattle.std.proofs.Common.{◌≡◌, ◌*◌, ◌≤◌}
use Rattle.ship_shapes.specs.Jams.{along_before}
use Rattle.ship_shapes.proofs.search.along_all.Given as goal

abbrev pub invariant-loop-ship : goal.invariant-loop-ship
invariant-loop-ship l = record {
  sum : l.along ≡ along_before l.lane l.ship;
  few : l.along ≤ 4294967296 * l.ship;
}
