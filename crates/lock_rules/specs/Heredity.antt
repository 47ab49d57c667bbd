-- What heredity says of decks.
use Rattle.std.specs.Prelude.{◌≡◌, List, length, ◌++◌, ◌∷◌, ◌≤◌}
use Rattle.lock_model.specs.declared.deck.Size.{Size}
use Rattle.lock_model.specs.Deck.{Deck, IsDeck}
use Rattle.lock_model.specs.Fitting.{Fits}

-- Heredity: of a deck within the limits that fits, what is left when one of two ships or more is left out fits, and so does a roomier deck.
pub record IsHereditary : Type 0 where
  pub thin : (d : Deck) (before after : List Size) (b : Size) → IsDeck d → d.ships ≡ before ++ b ∷ after → 1 ≤ length (before ++ after) → Fits d → Fits (record d { ships = before ++ after })
  pub widen : (d e : Deck) → IsDeck d → IsDeck e → d.end ≡ e.end → d.gap ≡ e.gap → d.side ≡ e.side → d.ships ≡ e.ships → d.length ≤ e.length → d.width ≤ e.width → Fits d → Fits e
