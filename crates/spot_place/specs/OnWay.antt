-- Spot cases as they are kept on their way: the berths of the first ships, and the x of these, or of all of them but the last.
use Rattle.std.specs.Prelude.{ℕ, suc, ◌<◌, List, [], ◌∷◌, length, slice_index_or, Contains}
use Rattle.lock_model.specs.Deck.{Deck}
use Rattle.lock_model.specs.declared.placement.Rank.TheVariants.{Left}
use Rattle.lock_model.specs.declared.placement.Moor.TheVariants.{Quay}
use Rattle.refute_rules.specs.declared.choices.Choice.{Choice}
use Rattle.refute_rules.specs.declared.choices.Choice.TheVariants.{Lies, LiesAt}
use Rattle.refute_rules.specs.Choices.{IsKnownMoor}
use Rattle.refute_rules.specs.Known.{hosts_within}
use Rattle.refute_rules.specs.declared.choices.Berth.{Berth}

-- the berth of ship i
abbrev pub berth_at : List Berth → ℕ → Berth
berth_at berths i = slice_index_or berths i (record { rank = Left; moor = Quay })

-- the spot case of these berths and places, from ship i on
abbrev pub case_from : ℕ → List Berth → List ℕ → List Choice
case_from i [] places = []
case_from i (m ∷ ms) [] = Lies i m ∷ case_from (suc i) ms []
case_from i (m ∷ ms) (x ∷ xs) = Lies i m ∷ LiesAt i x ∷ case_from (suc i) ms xs

abbrev pub case_of : List Berth → List ℕ → List Choice
case_of berths places = case_from 0 berths places

-- the berths alone
abbrev pub lying : List Berth → List Choice
lying berths = case_of berths []

-- each host is a ship of the deck
pub record AreKnown (d : Deck) (berths : List Berth) : Type 0 where
  pub each : (i : ℕ) → i < length berths → IsKnownMoor d (berth_at berths i).moor

-- ship x is among the first hosts of ship i, counted towards the quay, at most so many
pub record IsHostWithin (case : List Choice) (steps i x : ℕ) : Type 0 where
  pub among : Contains (hosts_within case steps i) x

-- the hosts of ship i, at most so many, lead back to it
pub record IsBack (case : List Choice) (steps i : ℕ) : Type 0 where
  pub round : IsHostWithin case steps i i

-- none of the first n numbers has the property
pub record NoneBelow (P : ℕ → Type 0) (n : ℕ) : Type 0 where
  pub each : (i : ℕ) → i < n → P i → ⊥
