-- Which decisions and options are about ships of a deck.
use Rattle.std.specs.Prelude.{ℕ, ◌≡◌, ◌≢◌, ◌<◌, List, length}
use Rattle.lock_model.specs.Deck.{Deck}
use Rattle.lock_model.specs.declared.placement.Moor.{Moor}
use Rattle.lock_model.specs.declared.placement.Moor.TheVariants.{Quay, Ship}
use Rattle.refute_rules.specs.Values.{spot_values}
use Rattle.refute_rules.specs.declared.choices.Decision.{Decision}
use Rattle.refute_rules.specs.declared.choices.Decision.TheVariants.{BerthOf, PairOf, XOf}
use Rattle.refute_rules.specs.declared.choices.Choice.{Choice}
use Rattle.refute_rules.specs.declared.choices.Choice.TheVariants.{Lies, Before, Below, LiesAt}

-- the host, if there is one, is another ship of the deck
abbrev pub IsMoorOfOthers : Deck → ℕ → Moor → Type 0
IsMoorOfOthers d i Quay = Unit {0}
IsMoorOfOthers d i (Ship k) = (k < length d.ships) × (k ≢ i)

-- the option is about ships of the deck, and names none of them twice
abbrev pub IsOfDeck : Deck → Choice → Type 0
IsOfDeck d (Lies i b) = (i < length d.ships) × IsMoorOfOthers d i b.moor
IsOfDeck d (Before i j) = (i < length d.ships) × (j < length d.ships) × (i ≢ j)
IsOfDeck d (Below i j) = (i < length d.ships) × (j < length d.ships) × (i ≢ j)
IsOfDeck d (LiesAt i x) = i < length d.ships

-- that of a decision; the values are those of an x
abbrev pub IsAskedOf : Deck → List ℕ → Decision → Type 0
IsAskedOf d values (BerthOf i) = i < length d.ships
IsAskedOf d values (PairOf i j) = (i < length d.ships) × (j < length d.ships) × (i ≢ j)
IsAskedOf d values (XOf i) = (i < length d.ships) × (values ≡ spot_values d)

pub record IsAsked (d : Deck) (values : List ℕ) (decision : Decision) : Type 0 where
  pub asked : IsAskedOf d values decision
