-- Raising places along the chamber until they obey a berth case.
use Rattle.std.specs.Prelude.{ℕ, ◌≡◌, ◌+◌, ◌-◌, ◌≤◌, ◌<◌, List, [], ◌∷◌, length, Contains, slice_index_or, Some}
use Rattle.std.specs.List.{AllByRecursion}
use Rattle.lock_model.specs.Deck.{Deck}
use Rattle.refute_rules.specs.Reasons.{length_at}
use Rattle.refute_rules.specs.declared.choices.Choice.{Choice}
use Rattle.refute_rules.specs.declared.choices.Choice.TheVariants.{Lies, Before, Below, LiesAt}
use Rattle.refute_rules.specs.Choices.{IsKnownMoor}
use Rattle.refute_rules.specs.SpotFaults.{IsInsideAlong}
use Rattle.refute_rules.specs.BerthCases.{host_in, ObeyAlong}

abbrev pub x_at : List ℕ → ℕ → ℕ
x_at xs i = slice_index_or xs i 0

-- the ships of an option of a berth case are ships of the deck
abbrev pub IsKnownChoice : Deck → Choice → Type 0
IsKnownChoice d (Lies i b) = (i < length d.ships) × IsKnownMoor d b.moor
IsKnownChoice d (Before i j) = (i < length d.ships) × (j < length d.ships)
IsKnownChoice d (Below i j) = ⊥
IsKnownChoice d (LiesAt i v) = ⊥

pub record AreKnown (d : Deck) (case : List Choice) : Type 0 where
  pub all : AllByRecursion (IsKnownChoice d) case

-- an option that stands in the case
pub record IsOf (case : List Choice) (c : Choice) : Type 0 where
  pub stands : Contains case c

-- the places are at most these
pub record AreAtMost (d : Deck) (xs : List ℕ) (x : ℕ → ℕ) : Type 0 where
  pub most : (i : ℕ) → i < length d.ships → x_at xs i ≤ x i

-- the places are at most all that obey the case
pub record AreBelow (d : Deck) (case : List Choice) (xs : List ℕ) : Type 0 where
  pub below : (x : ℕ → ℕ) → ObeyAlong d case x → AreAtMost d xs x

-- a ship's place is less than the case asks
pub record IsForced (d : Deck) (case : List Choice) (xs : List ℕ) (ship value : ℕ) : Type 0 where
  pub known : ship < length d.ships
  pub higher : x_at xs ship < value
  pub forced : (x : ℕ → ℕ) → ObeyAlong d case x → AreAtMost d xs x → value ≤ x ship

-- a ship's place obeys its decided host
pub record IsHostObeyed (d : Deck) (case : List Choice) (xs : List ℕ) (i : ℕ) : Type 0 where
  pub obeyed : (k : ℕ) → host_in case i ≡ Some k → (x_at xs k ≤ x_at xs i) × (x_at xs i + length_at d i ≤ x_at xs k + length_at d k)

-- the places obey an option, where it is an order
pub record IsOrderObeyed (d : Deck) (xs : List ℕ) (c : Choice) : Type 0 where
  pub obeyed : (i j : ℕ) → c ≡ Before i j → x_at xs i + length_at d i + d.gap ≤ x_at xs j

-- they obey the hosts of the first ships
pub record AreHostsObeyed (d : Deck) (case : List Choice) (xs : List ℕ) (count : ℕ) : Type 0 where
  pub each : (i : ℕ) → i < count → IsHostObeyed d case xs i

-- they obey the first options, where these are orders
pub record AreOrdersObeyed (d : Deck) (case : List Choice) (xs : List ℕ) (count : ℕ) : Type 0 where
  pub each : (k : ℕ) → k < count → (z : Choice) → IsOrderObeyed d xs (slice_index_or case k z)

-- they obey all hosts and all orders
pub record AreSettled (d : Deck) (case : List Choice) (xs : List ℕ) : Type 0 where
  pub hosts : AreHostsObeyed d case xs (length d.ships)
  pub orders : AreOrdersObeyed d case xs (length case)

-- the first ships are inside along the chamber
pub record AreFirstInside (d : Deck) (xs : List ℕ) (count : ℕ) : Type 0 where
  pub inside : (i : ℕ) → i < count → IsInsideAlong d i (x_at xs i)

-- some places obey the case
pub record HasPlaces (d : Deck) (case : List Choice) : Type 0 where
  pub x : ℕ → ℕ
  pub obey : ObeyAlong d case x

-- how far the places can still rise up to a length
abbrev pub rise_left : ℕ → List ℕ → ℕ
rise_left most [] = 0
rise_left most (x ∷ xs) = (most - x) + rise_left most xs
