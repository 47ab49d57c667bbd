-- Pairs of ships that overlap.
use Rattle.std.specs.Prelude.{ℕ, ◌≡◌, ◌≢◌, ◌<◌, ◌⊎◌, ◌+◌, ℤ, pos, ◌+ℤ◌, ◌≤ℤ◌, List, length, slice_index_or}
use Rattle.std.specs.List.{AllByRecursion}
use Rattle.lock_model.specs.Deck.{Deck}
use Rattle.list_laws.specs.Among.{IsAmong}
use Rattle.diff_rules.specs.Differences.{value_at}
use Rattle.refute_rules.specs.Reasons.{length_at}
use Rattle.refute_rules.specs.declared.choices.Choice.{Choice}
use Rattle.refute_rules.specs.BerthCases.{DoOverlap, HasOrder}
use Rattle.diff_system.specs.PathTree.{IsSmall}
use Rattle.berth_place.specs.Along.{place_var, place_count}
use Rattle.berth_place.specs.declared.pairs.Pair.{Pair}

-- two ships of the deck that overlap, the lower number first
pub record IsPair (d : Deck) (case : List Choice) (p : Pair) : Type 0 where
  pub rising : p.lower < p.upper
  pub known : p.upper < length d.ships
  pub overlap : DoOverlap d case p.lower p.upper

abbrev pub pair : ℕ → ℕ → Pair
pair i j = record { lower = i; upper = j }

-- each pair of the list overlaps
pub record ArePairs (d : Deck) (case : List Choice) (ps : List Pair) : Type 0 where
  pub all : AllByRecursion (IsPair d case) ps

-- each two ships below a number that overlap are in the list, or have an order
pub record AreAllPairs (d : Deck) (case : List Choice) (ps : List Pair) (count : ℕ) : Type 0 where
  pub each : (i j : ℕ) → i < j → j < count → DoOverlap d case i j → IsAmong ps (pair i j) ⊎ (HasOrder case i j ⊎ HasOrder case j i)

-- what the list has of a ship and the first lower ones
pub record ArePartlyPairs (d : Deck) (case : List Choice) (ps : List Pair) (upper count : ℕ) : Type 0 where
  pub before : AreAllPairs d case ps upper
  pub here : (i : ℕ) → i < count → DoOverlap d case i upper → IsAmong ps (pair i upper) ⊎ (HasOrder case i upper ⊎ HasOrder case upper i)

-- the values put ship i before ship j
pub record IsBeforeAt (d : Deck) (values : List ℤ) (i j : ℕ) : Type 0 where
  pub before : (value_at values (place_var i) +ℤ pos (length_at d i + d.gap)) ≤ℤ value_at values (place_var j)

-- they put one of the two before the other
abbrev pub AreApartAlong : Deck → List ℤ → Pair → Type 0
AreApartAlong d values p = IsBeforeAt d values p.lower p.upper ⊎ IsBeforeAt d values p.upper p.lower

-- so with each of the first pairs
pub record AreFirstApart (d : Deck) (values : List ℤ) (ps : List Pair) (count : ℕ) : Type 0 where
  pub each : (k : ℕ) → k < count → AreApartAlong d values (slice_index_or ps k (pair 0 0))

-- the values don't put the ships of this pair apart
pub record AreNotApart (d : Deck) (values : List ℤ) (ps : List Pair) (number : ℕ) : Type 0 where
  pub known : number < length ps
  pub touching : AreApartAlong d values (slice_index_or ps number (pair 0 0)) → ⊥

-- one value for the origin and for each ship, none of them large
pub record AreSmallValues (d : Deck) (values : List ℤ) : Type 0 where
  pub count : length values ≡ place_count d
  pub small : (v : ℕ) → v < place_count d → IsSmall values v

-- the list has each pair but the one of this number, and no others
pub record ArePairsBut (ps : List Pair) (number : ℕ) (left : List Pair) : Type 0 where
  pub fewer : length left + 1 ≡ length ps
  pub kept : (k : ℕ) → k < length ps → k ≢ number → IsAmong left (slice_index_or ps k (pair 0 0))
  pub only : (p : Pair) → IsAmong left p → IsAmong ps p
