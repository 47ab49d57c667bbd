-- The spots of a case that decides all berths.
use Rattle.std.specs.Prelude.{ℕ, ◌≡◌, ◌<◌, ℤ, pos, List, length, Some}
use Rattle.lock_model.specs.Deck.{Deck}
use Rattle.lock_model.specs.Placement.{spot_at}
use Rattle.lock_model.specs.declared.placement.Spot.{Spot}
use Rattle.diff_rules.specs.Differences.{value_at}
use Rattle.refute_rules.specs.declared.choices.Choice.{Choice}
use Rattle.refute_rules.specs.Decided.{berth_in}
use Rattle.refute_rules.specs.Known.{y_in}
use Rattle.berth_place.specs.Along.{place_var}

-- the spot of ship i: its berth and y in the case, and its x by the values
pub record IsSpotOf (d : Deck) (case : List Choice) (values : List ℤ) (i : ℕ) (s : Spot) : Type 0 where
  pub berth : berth_in case i ≡ Some (record { rank = s.rank; moor = s.moor })
  pub y : y_in d case i ≡ Some (pos s.y)
  pub x : value_at values (place_var i) ≡ pos s.x

-- spots of the first ships
pub record AreSpotsSoFar (d : Deck) (case : List Choice) (values : List ℤ) (first : ℕ) (spots : List Spot) : Type 0 where
  pub count : length spots ≡ first
  pub each : (i : ℕ) → i < first → IsSpotOf d case values i (spot_at spots i)
