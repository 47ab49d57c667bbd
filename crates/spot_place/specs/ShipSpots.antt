-- The spot of a ship in a whole spot case.
use Rattle.std.specs.Prelude.{ℕ, ◌≡◌, pos, List, Some}
use Rattle.lock_model.specs.Deck.{Deck}
use Rattle.lock_model.specs.declared.placement.Spot.{Spot}
use Rattle.refute_rules.specs.declared.choices.Choice.{Choice}
use Rattle.refute_rules.specs.Decided.{berth_in, x_in}
use Rattle.refute_rules.specs.Known.{y_in}

-- ship i has this x, this y and this berth
pub record IsSpotOf (d : Deck) (case : List Choice) (i : ℕ) (spot : Spot) : Type 0 where
  pub x : x_in case i ≡ Some spot.x
  pub y : y_in d case i ≡ Some (pos spot.y)
  pub berth : berth_in case i ≡ Some (record { rank = spot.rank; moor = spot.moor })
