use Rattle.std.proofs.Common.{ℕ, ◌≡◌, ◌<◌, length}
use Rattle.refute_rules.specs.Known.{y_within}
use Rattle.spot_place.specs.OnWay.{lying}
use Rattle.spot_place.specs.Heights.{height_at}
use Rattle.spot_place.proofs.heights.heights_of.Given as goal

abbrev pub invariant-loop-ship : goal.invariant-loop-ship
invariant-loop-ship l = record {
  count : length l.heights ≡ l.ship;
  each : (i : ℕ) → i < l.ship → height_at l.heights i ≡ y_within l.deck (lying l.berths) l.count i;
}
