-- A deck and the turns that it was tried for.
use Rattle.std.specs.Prelude.{ℕ}
use Rattle.lock_model.specs.Deck.{Deck}

pub record Tried : Type 0 where
  pub deck : Deck
  pub turns : ℕ
