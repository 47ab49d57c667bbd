-- The known y of each ship of a deck, as a spot case on its way keeps them.
use Rattle.std.specs.Prelude.{ℕ, ◌≡◌, ◌<◌, ℤ, List, length, slice_index_or, None}
use Rattle.std.specs.declared.option.Option.{Option}
use Rattle.lock_model.specs.Deck.{Deck}
use Rattle.refute_rules.specs.declared.choices.Choice.{Choice}
use Rattle.refute_rules.specs.Known.{y_in}

-- y of ship i, where it is known
abbrev pub height_at : List (Option ℤ) → ℕ → Option ℤ
height_at heights i = slice_index_or heights i None

-- for each ship of the deck its y, where the case tells it
pub record AreHeights (d : Deck) (case : List Choice) (heights : List (Option ℤ)) : Type 0 where
  pub count : length heights ≡ length d.ships
  pub each : (i : ℕ) → i < length d.ships → height_at heights i ≡ y_in d case i
