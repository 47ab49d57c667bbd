-- How far a ship can move towards the near end, against the ships that are done and stay.
use Rattle.std.specs.Prelude.{ℕ, ◌+◌, ◌≡◌, ◌≤◌, ◌<◌, ◌⊎◌, Bool, true, false, List, length, slice_index_or}
use Rattle.lock_model.specs.Deck.{Deck, size_at}
use Rattle.lock_model.specs.Placement.{spot_at}
use Rattle.lock_model.specs.declared.placement.Spot.{Spot}
use Rattle.lock_model.specs.declared.placement.Moor.TheVariants.{Ship}

-- the slack of ship i against a ship j that stays is at least s, by each of the three limits
pub record Keeps (d : Deck) (spots : List Spot) (i j s : ℕ) : Type 0 where
  pub behind : (spot_at spots j).x + (size_at d j).length + d.gap ≤ (spot_at spots i).x → (spot_at spots j).x + (size_at d j).length + d.gap + s ≤ (spot_at spots i).x
  pub host : (spot_at spots i).moor ≡ Ship j → (spot_at spots j).x + s ≤ (spot_at spots i).x
  pub guest : (spot_at spots j).moor ≡ Ship i → (spot_at spots j).x + (size_at d j).length + s ≤ (spot_at spots i).x + (size_at d i).length

-- ship i can move by s, while the ships that are done stay
pub record HasRoom (d : Deck) (spots : List Spot) (done : ℕ → Bool) (i s : ℕ) : Type 0 where
  pub end : d.end + s ≤ (spot_at spots i).x
  pub others : (j : ℕ) → j < length d.ships → done j ≡ true → Keeps d spots i j s

-- the slack of ship i against ship j is s by one of the limits
abbrev pub IsTightBy : Deck → List Spot → ℕ → ℕ → ℕ → Type 0
IsTightBy d spots i j s =
    ((spot_at spots i).x ≡ (spot_at spots j).x + (size_at d j).length + d.gap + s)
    ⊎ ((((spot_at spots i).moor ≡ Ship j) × ((spot_at spots i).x ≡ (spot_at spots j).x + s))
    ⊎ (((spot_at spots j).moor ≡ Ship i) × ((spot_at spots i).x + (size_at d i).length ≡ (spot_at spots j).x + (size_at d j).length + s)))

-- moved by s, ship i is held by the near end or by a ship that is done
abbrev pub IsTight : Deck → List Spot → (ℕ → Bool) → ℕ → ℕ → Type 0
IsTight d spots done i s = ((spot_at spots i).x ≡ d.end + s) ⊎ ((j : ℕ) × (j < length d.ships) × (done j ≡ true) × IsTightBy d spots i j s)

-- ship `ship` isn't done, and s is its slack and the least one of the ships that aren't done
pub record IsLeastSlack (d : Deck) (spots : List Spot) (done : ℕ → Bool) (ship s : ℕ) : Type 0 where
  pub room : (i : ℕ) → i < length d.ships → done i ≡ false → HasRoom d spots done i s
  pub known : ship < length d.ships
  pub free : done ship ≡ false
  pub tight : IsTight d spots done ship s

-- which ships are done, by a list
abbrev pub done_in : List Bool → ℕ → Bool
done_in done i = slice_index_or done i false

-- s is the slack of ship `ship`, and no greater than that of the first n ships, of those that aren't done
pub record IsLeastTo (d : Deck) (spots : List Spot) (done : ℕ → Bool) (n ship s : ℕ) : Type 0 where
  pub room : (i : ℕ) → i < n → done i ≡ false → HasRoom d spots done i s
  pub known : ship < length d.ships
  pub free : done ship ≡ false
  pub tight : IsTight d spots done ship s

-- s is at most the slack of ship i against the first n ships, and is reached
pub record IsSlackTo (d : Deck) (spots : List Spot) (done : ℕ → Bool) (i n s : ℕ) : Type 0 where
  pub end : d.end + s ≤ (spot_at spots i).x
  pub tight : IsTight d spots done i s
  pub others : (j : ℕ) → j < n → done j ≡ true → Keeps d spots i j s
