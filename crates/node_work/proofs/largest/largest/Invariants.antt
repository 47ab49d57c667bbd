use Rattle.std.proofs.Common.{◌<◌, All, Contains}
use Rattle.node_work.proofs.largest.largest.Given as goal

abbrev pub invariant-loop-ship : goal.invariant-loop-ship
invariant-loop-ship l = record {
  below : All (λ s. s < l.ship) l.large;
  among : All (Contains l.asked.ships.now) l.large;
}
