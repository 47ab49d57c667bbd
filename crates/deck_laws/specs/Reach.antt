-- How the spot values are found: a table that holds, for each number, the round that reaches it first.
use Rattle.std.specs.Prelude.{ℕ, ◌+◌, ◌≡◌, ◌≢◌, ◌≤◌, ◌<◌, ◌⊎◌, Option, Some, None, IsSome, is_some, List, length, map, filter, slice_index_or}
use Rattle.lock_model.specs.Deck.{Deck}
use Rattle.lock_model.specs.declared.deck.Size.{Size}
use Rattle.lock_rules.specs.Bound.{least_number}
use Rattle.lock_rules.specs.Arrival.{numbers_from}
use Rattle.refute_rules.specs.Reasons.{length_at}
use Rattle.refute_rules.specs.Values.{values_after}
use Rattle.list_laws.specs.Among.{IsAmong}

-- the round that reaches t first
abbrev pub round_at : List (Option ℕ) → ℕ → Option ℕ
round_at rounds t = slice_index_or rounds t None

-- at this place, which isn't before the near end
pub record IsPlace (d : Deck) (place t : ℕ) : Type 0 where
  pub near : d.end ≤ t
  pub here : t ≡ place

-- tight behind ship j, which lies at v
pub record IsBehind (d : Deck) (v j t : ℕ) : Type 0 where
  pub near : d.end ≤ t
  pub tight : t ≡ v + length_at d j + d.gap

-- where ship i has the far end of another ship j, which lies at v
pub record IsFlush (d : Deck) (v j i t : ℕ) : Type 0 where
  pub differ : i ≢ j
  pub near : d.end ≤ t
  pub flush : t + length_at d i ≡ v + length_at d j

-- where one of the first n ships has the far end of another ship j, which lies at v
abbrev pub IsFlushOf : Deck → ℕ → ℕ → ℕ → ℕ → Type 0
IsFlushOf d v j n t = (i : ℕ) × (i < n) × IsFlush d v j i t

-- one step from ship j at v
abbrev pub IsStepBy : Deck → ℕ → ℕ → ℕ → Type 0
IsStepBy d v j t = IsBehind d v j t ⊎ IsFlushOf d v j (length d.ships) t

-- one step from one of the first n ships at v
abbrev pub IsStepOf : Deck → ℕ → ℕ → ℕ → Type 0
IsStepOf d v n t = (j : ℕ) × (j < n) × IsStepBy d v j t

-- one step from v, if round k reaches that first
abbrev pub IsStepAfter : Deck → List (Option ℕ) → ℕ → ℕ → ℕ → Type 0
IsStepAfter d rounds k v t = (round_at rounds v ≡ Some k) × IsStepOf d v (length d.ships) t

-- one step from one of the first n numbers that round k reaches first
abbrev pub IsNextOf : Deck → List (Option ℕ) → ℕ → ℕ → ℕ → Type 0
IsNextOf d rounds k n t = (v : ℕ) × (v < n) × IsStepAfter d rounds k v t

-- the numbers of the table with P are reached now, by this round unless they were before; no others are
pub record AreReached (old new : List (Option ℕ)) (round : ℕ) (P : ℕ → Type 0) : Type 0 where
  pub size : length new ≡ length old
  pub stays : (t r : ℕ) → round_at old t ≡ Some r → round_at new t ≡ Some r
  pub adds : (t r : ℕ) → round_at new t ≡ Some r → (round_at old t ≡ Some r) ⊎ ((r ≡ round) × P t)
  pub all : (t : ℕ) → P t → t < length old → IsSome (round_at new t)

-- the length of the shortest ship
abbrev pub least_length : Deck → ℕ
least_length d = least_number (map (λ (s : Size). s.length) d.ships)

-- the numbers up to the last place where the shortest ship has room
pub record IsTable (d : Deck) (rounds : List (Option ℕ)) : Type 0 where
  pub near : d.end < length rounds
  pub far : (t : ℕ) → t < length rounds → t + least_length d + d.end ≤ d.length
  pub whole : (t : ℕ) → t + least_length d + d.end ≤ d.length → t < length rounds

-- k rounds are done: the table holds the values after each
pub record HasReached (d : Deck) (k : ℕ) (rounds : List (Option ℕ)) : Type 0 where
  pub table : IsTable d rounds
  pub sound : (t r : ℕ) → round_at rounds t ≡ Some r → (r ≤ k) × IsAmong (values_after d r) t
  pub complete : (t : ℕ) → IsAmong (values_after d k) t → IsSome (round_at rounds t)

-- the numbers that are reached, rising
abbrev pub reached_of : List (Option ℕ) → ℕ → List ℕ
reached_of rounds n = filter (λ t. is_some (round_at rounds t)) (numbers_from 0 n)
