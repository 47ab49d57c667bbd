-- The first break of a placement: ships outside, then ships that touch, then moorings that don't hold.
use Rattle.std.specs.Prelude.{ℕ, ◌≡◌, ◌<◌, List, length}
use Rattle.lock_model.specs.Deck.{Deck, size_at}
use Rattle.lock_model.specs.Placement.{IsInside, AreApart, IsApartFromLater, IsBerthed, spot_at}
use Rattle.lock_model.specs.declared.placement.Spot.{Spot}
use Rattle.lock_model.specs.declared.placement.Moor.{Moor}
use Rattle.lock_model.specs.declared.placement.Moor.TheVariants.{Quay, Ship}
use Rattle.mooring_rules.specs.declared.breaks.Broken.{Broken}
use Rattle.mooring_rules.specs.declared.breaks.Broken.TheVariants.{Outside, Touching, Adrift, BadHost}

-- every ship is inside
pub record AreInside (d : Deck) (spots : List Spot) : Type 0 where
  pub each : (i : ℕ) → i < length d.ships → IsInside d (size_at d i) (spot_at spots i)

-- each two ships are apart
pub record AreAllApart (d : Deck) (spots : List Spot) : Type 0 where
  pub each : (i : ℕ) → i < length d.ships → IsApartFromLater d spots i

-- every ship is berthed
pub record AreBerthed (d : Deck) (spots : List Spot) : Type 0 where
  pub each : (i : ℕ) → i < length d.ships → IsBerthed d spots i

-- ship i isn't inside, and each before it is
pub record IsFirstOutside (d : Deck) (spots : List Spot) (i : ℕ) : Type 0 where
  pub ship : i < length d.ships
  pub outside : ¬ IsInside d (size_at d i) (spot_at spots i)
  pub before : (k : ℕ) → k < i → IsInside d (size_at d k) (spot_at spots k)

-- ship j is after ship i and not apart from it, and each between them is apart from ship i
pub record TouchesFirst (d : Deck) (spots : List Spot) (i j : ℕ) : Type 0 where
  pub order : i < j
  pub ship : j < length d.ships
  pub touching : ¬ AreApart d (size_at d i) (spot_at spots i) (size_at d j) (spot_at spots j)
  pub between : (k : ℕ) → i < k → k < j → AreApart d (size_at d i) (spot_at spots i) (size_at d k) (spot_at spots k)

-- so it is with ships i and j, and each ship before i is apart from all after it
pub record AreFirstTouching (d : Deck) (spots : List Spot) (i j : ℕ) : Type 0 where
  pub pair : TouchesFirst d spots i j
  pub before : (k : ℕ) → k < i → IsApartFromLater d spots k

-- ship i isn't berthed, and each before it is
pub record IsFirstLoose (d : Deck) (spots : List Spot) (i : ℕ) : Type 0 where
  pub ship : i < length d.ships
  pub loose : ¬ IsBerthed d spots i
  pub before : (k : ℕ) → k < i → IsBerthed d spots k

-- All ships are inside and apart, and ship i is the first that isn't berthed; its mooring is m.
pub record IsFirstLooseAt (d : Deck) (spots : List Spot) (i : ℕ) (m : Moor) : Type 0 where
  pub inside : AreInside d spots
  pub apart : AreAllApart d spots
  pub first : IsFirstLoose d spots i
  pub moor : (spot_at spots i).moor ≡ m

-- The first break: no ship before it, and no kind of break before it, breaks a rule.
abbrev pub IsFirstBroken : Deck → List Spot → Broken → Type 0
IsFirstBroken d spots (Outside i) = IsFirstOutside d spots i
IsFirstBroken d spots (Touching i j) = AreInside d spots × AreFirstTouching d spots i j
IsFirstBroken d spots (Adrift i) = IsFirstLooseAt d spots i Quay
IsFirstBroken d spots (BadHost i k) = IsFirstLooseAt d spots i (Ship k)

-- what a ship breaks that isn't berthed
abbrev pub loose_break : ℕ → Moor → Broken
loose_break i Quay = Adrift i
loose_break i (Ship k) = BadHost i k
