-- The first two ships of a deck that clash.
use Rattle.std.specs.Prelude.{ℕ, ◌<◌, length}
use Rattle.lock_model.specs.Deck.{Deck, size_at}
use Rattle.lock_model.specs.Cargo.{Clash, GoTogether, IsClearOfLater}

-- ship j is after ship i and clashes with it, and no ship between them does
pub record ClashesFirst (d : Deck) (i j : ℕ) : Type 0 where
  pub order : i < j
  pub ship : j < length d.ships
  pub clash : Clash (size_at d i) (size_at d j)
  pub between : (k : ℕ) → i < k → k < j → GoTogether (size_at d i) (size_at d k)

-- so it is with ships i and j, and no ship before i clashes with one after it
pub record AreFirstClashing (d : Deck) (i j : ℕ) : Type 0 where
  pub pair : ClashesFirst d i j
  pub before : (k : ℕ) → k < i → IsClearOfLater d k
