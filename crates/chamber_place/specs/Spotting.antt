-- The spots of a case, one ship after the other.
use Rattle.std.specs.Prelude.{ℕ, ◌≡◌, ◌<◌, ℤ, pos, List, length, Some}
use Rattle.lock_model.specs.Placement.{spot_at}
use Rattle.lock_model.specs.declared.placement.Spot.{Spot}
use Rattle.diff_rules.specs.Differences.{value_at}
use Rattle.refute_rules.specs.declared.choices.Berth.{Berth}
use Rattle.refute_rules.specs.declared.choices.Choice.{Choice}
use Rattle.refute_rules.specs.Edges.{x_var, y_var}
use Rattle.refute_rules.specs.Decided.{berth_in}

-- the berth of ship i is decided
abbrev pub IsBerthDecided : List Choice → ℕ → Type 0
IsBerthDecided case i = (b : Berth) × (berth_in case i ≡ Some b)

-- ship i lies at its berth, where the values put it
pub record IsSpotOf (case : List Choice) (values : List ℤ) (i : ℕ) (spot : Spot) : Type 0 where
  pub x : value_at values (x_var i) ≡ pos spot.x
  pub y : value_at values (y_var i) ≡ pos spot.y
  pub berth : berth_in case i ≡ Some (record { rank = spot.rank; moor = spot.moor })

-- the spots of the first n ships
pub record AreFirstSpots (case : List Choice) (values : List ℤ) (n : ℕ) (spots : List Spot) : Type 0 where
  pub count : length spots ≡ n
  pub each : (i : ℕ) → i < n → IsSpotOf case values i (spot_at spots i)
