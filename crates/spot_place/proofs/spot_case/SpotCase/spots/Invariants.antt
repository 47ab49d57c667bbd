use Rattle.std.proofs.Common.{ℕ, ◌≡◌, ◌<◌, length}
use Rattle.lock_model.specs.Placement.{spot_at}
use Rattle.spot_place.specs.ShipSpots.{IsSpotOf}
use Rattle.spot_place.specs.SpotCase.{case_on}
use Rattle.spot_place.proofs.spot_case.SpotCase.spots.Given as goal

abbrev pub invariant-loop-ship : goal.invariant-loop-ship
invariant-loop-ship l = record {
  count : length l.spots ≡ l.ship;
  each : (i : ℕ) → i < l.ship → IsSpotOf l.self.deck (case_on l.self) i (spot_at l.spots i);
}
