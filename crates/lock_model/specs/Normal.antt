-- Normal placements: every ship is pushed to the near end until something holds it.
use Rattle.std.specs.Prelude.{ℕ, zero, suc, ◌≡◌, ◌+◌, ◌<◌, ◌⊎◌, List, length}
use Rattle.lock_model.specs.Deck.{Deck, size_at}
use Rattle.lock_model.specs.declared.placement.Spot.{Spot}
use Rattle.lock_model.specs.declared.placement.Moor.TheVariants.{Ship}
use Rattle.lock_model.specs.Placement.{spot_at, IsLegalPlacement}

-- Ship i can't lie nearer to the near end because of ship j: j stands tight before it, or is its host with the same near end, or is its guest with the same far end.
abbrev pub IsHeldBy : Deck → List Spot → ℕ → ℕ → Type 0
IsHeldBy d spots i j =
    ((spot_at spots i).x ≡ (spot_at spots j).x + (size_at d j).length + d.gap)
    ⊎ ((((spot_at spots i).moor ≡ Ship j) × ((spot_at spots i).x ≡ (spot_at spots j).x))
    ⊎ (((spot_at spots j).moor ≡ Ship i) × ((spot_at spots i).x + (size_at d i).length ≡ (spot_at spots j).x + (size_at d j).length)))

-- held by the near end of the chamber, or by a ship that is anchored in one step less
abbrev pub IsAnchoredIn : Deck → List Spot → ℕ → ℕ → Type 0
IsAnchoredIn d spots zero i = (spot_at spots i).x ≡ d.end
IsAnchoredIn d spots (suc k) i = (j : ℕ) × (j < length d.ships) × IsAnchoredIn d spots k j × IsHeldBy d spots i j

abbrev pub IsAnchored : Deck → List Spot → ℕ → Type 0
IsAnchored d spots i = (k : ℕ) × IsAnchoredIn d spots k i

-- legal, and every ship is anchored
pub record IsNormal (d : Deck) (spots : List Spot) : Type 0 where
  pub legal : IsLegalPlacement d spots
  pub anchored : (i : ℕ) → i < length d.ships → IsAnchored d spots i

-- where the deck has a legal placement, it has a normal one
abbrev pub HasNormal : Deck → Type 0
HasNormal d = (spots : List Spot) → IsLegalPlacement d spots → (normal : List Spot) × IsNormal d normal
