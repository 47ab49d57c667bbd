-- Ships whose cargo keeps them out of one lockage.
use Rattle.std.specs.Prelude.{ℕ, ◌≢◌, ◌<◌, length}
use Rattle.lock_model.specs.Deck.{Deck, size_at}
use Rattle.lock_model.specs.declared.deck.Size.{Size}

-- The cargo classes differ, and neither is 0.
pub record Clash (s t : Size) : Type 0 where
  pub differ : s.cargo ≢ t.cargo
  pub first : s.cargo ≢ 0
  pub second : t.cargo ≢ 0

-- the two don't clash
pub record GoTogether (s t : Size) : Type 0 where
  pub peace : Clash s t → ⊥

-- ship i clashes with no ship after it
pub record IsClearOfLater (d : Deck) (i : ℕ) : Type 0 where
  pub later : (j : ℕ) → i < j → j < length d.ships → GoTogether (size_at d i) (size_at d j)

-- no two ships of the deck clash
pub record HasNoClash (d : Deck) : Type 0 where
  pub clear : (i : ℕ) → i < length d.ships → IsClearOfLater d i
