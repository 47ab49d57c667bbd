use Rattle.std.proofs.Common.{◌<◌, All, Contains}
use Rattle.node_work.proofs.cutting.without.Given as goal

abbrev pub invariant-loop-ship : goal.invariant-loop-ship
invariant-loop-ship l = record {
  below : All (λ s. s < l.ship) l.fewer;
  among : All (Contains l.ships) l.fewer;
}
