-- The law of normal forms.
use Rattle.std.specs.Prelude.{ℕ, ◌<◌, List, length, Contains}
use Rattle.lock_model.specs.Deck.{Deck, IsDeck}
use Rattle.lock_model.specs.Normal.{IsNormal}
use Rattle.lock_model.specs.Placement.{IsLegalPlacement, spot_at}
use Rattle.lock_model.specs.declared.placement.Spot.{Spot}
use Rattle.deck_laws.specs.Shift.{AreNoFarther}

-- a normal placement with the same y, ranks and moorings, and no greater x
pub record HasNormalForm (d : Deck) (spots : List Spot) : Type 0 where
  pub form : List Spot
  pub normal : IsNormal d form
  pub back : AreNoFarther spots form

-- each legal placement of a deck within the limits has a normal form
pub record HaveNormalForms : Type 0 where
  pub each : (d : Deck) (spots : List Spot) → IsDeck d → IsLegalPlacement d spots → HasNormalForm d spots

-- the x of each ship of each normal placement is among these values
pub record HoldNormalPlaces (d : Deck) (values : List ℕ) : Type 0 where
  pub each : (spots : List Spot) (i : ℕ) → IsNormal d spots → i < length d.ships → Contains values (spot_at spots i).x
