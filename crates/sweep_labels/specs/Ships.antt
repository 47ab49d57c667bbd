-- Sets of ships as the bits of numbers.
use Rattle.std.specs.Prelude.{ℕ, ◌≡◌, ◌≢◌, Bool, true, false, nat_eq}
use Rattle.std.specs.Int.{bit_at}

-- whether a ship is among those of a number's bits
unfoldable pub is_in : ℕ → ℕ → Bool
is_in bits s = nat_eq (bit_at bits s) 1

-- no ship is in both
pub record AreApart (a b : ℕ) : Type 0 where
  pub none : (s : ℕ) → is_in a s ≡ true → is_in b s ≡ false

-- all ships of b are in a
pub record HoldsAll (a b : ℕ) : Type 0 where
  pub all : (s : ℕ) → is_in b s ≡ true → is_in a s ≡ true

-- the ships of a, and one more
pub record IsWith (a ship more : ℕ) : Type 0 where
  pub own : is_in more ship ≡ true
  pub others : (s : ℕ) → s ≢ ship → is_in more s ≡ is_in a s
