-- Berth cases without orders, and those that decide all berths.
use Rattle.std.specs.Prelude.{ℕ, ◌≡◌, ◌≢◌, ◌<◌, ℤ, List, Contains, length, Some}
use Rattle.std.specs.List.{AllByRecursion}
use Rattle.lock_model.specs.Deck.{Deck}
use Rattle.refute_rules.specs.declared.choices.Berth.{Berth}
use Rattle.refute_rules.specs.declared.choices.Choice.{Choice}
use Rattle.refute_rules.specs.declared.choices.Choice.TheVariants.{Lies, Before, Below, LiesAt}
use Rattle.refute_rules.specs.Decided.{berth_in, HasOtherRank}
use Rattle.refute_rules.specs.Known.{hosts_within, y_in}
use Rattle.refute_rules.specs.SpotFaults.{IsOutsideAcross}
use Rattle.refute_rules.specs.BerthCases.{host_in}

-- an option that is a berth
abbrev pub IsBerth : Choice → Type 0
IsBerth (Lies i b) = Unit {0}
IsBerth (Before i j) = ⊥
IsBerth (Below i j) = ⊥
IsBerth (LiesAt i v) = ⊥

-- a case without orders
pub record AreBerths (case : List Choice) : Type 0 where
  pub all : AllByRecursion IsBerth case

-- the berth of ship i is decided
pub record IsDecided (case : List Choice) (i : ℕ) : Type 0 where
  pub berth : Berth
  pub is : berth_in case i ≡ Some berth

-- those of the first ships are
pub record AreDecided (case : List Choice) (count : ℕ) : Type 0 where
  pub each : (i : ℕ) → i < count → IsDecided case i

-- no fault of ship i that keeps its y from being known and inside
pub record IsSoundShip (d : Deck) (case : List Choice) (i : ℕ) : Type 0 where
  pub rank : HasOtherRank case i → ⊥
  pub free : Contains (hosts_within case (length d.ships) i) i → ⊥
  pub across : IsOutsideAcross d case i → ⊥

-- so with the first ships
pub record AreSoundShips (d : Deck) (case : List Choice) (count : ℕ) : Type 0 where
  pub each : (i : ℕ) → i < count → IsSoundShip d case i

-- the berths of all ships are decided, none is of another rank than its host or its own host, and each lies inside across the chamber
pub record HasAllBerths (d : Deck) (case : List Choice) : Type 0 where
  pub decided : AreDecided case (length d.ships)
  pub ranks : (i : ℕ) → HasOtherRank case i → ⊥
  pub ys : (i : ℕ) → i < length d.ships → (y : ℤ) × (y_in d case i ≡ Some y)
  pub across : (i : ℕ) → IsOutsideAcross d case i → ⊥
  pub other : (i k : ℕ) → host_in case i ≡ Some k → k ≢ i
