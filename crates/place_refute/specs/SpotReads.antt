-- What is read of a spot case on the way to its faults.
use Rattle.std.specs.Prelude.{ℕ, ◌≡◌, ◌+◌, ◌≤◌, ℤ, List, Some}
use Rattle.lock_model.specs.Deck.{Deck}
use Rattle.refute_rules.specs.Reasons.{length_at}
use Rattle.refute_rules.specs.declared.choices.Choice.{Choice}
use Rattle.refute_rules.specs.Decided.{x_in}
use Rattle.refute_rules.specs.Known.{y_in}

-- the length of a ship at x is inside that of a host at host_x
abbrev pub IsWithinHost : Deck → ℕ → ℕ → ℕ → ℕ → Type 0
IsWithinHost d i x host host_x = (host_x ≤ x) × (x + length_at d i ≤ host_x + length_at d host)

-- the x of both are decided, and it isn't
pub record IsPast (d : Deck) (case : List Choice) (i host : ℕ) : Type 0 where
  pub x : ℕ
  pub host_x : ℕ
  pub own : x_in case i ≡ Some x
  pub other : x_in case host ≡ Some host_x
  pub past : IsWithinHost d i x host host_x → ⊥

-- ship i lies at x and y
pub record IsAtPosition (d : Deck) (case : List Choice) (i x : ℕ) (y : ℤ) : Type 0 where
  pub decided : x_in case i ≡ Some x
  pub known : y_in d case i ≡ Some y

-- it isn't known where
pub record HasNoPosition (d : Deck) (case : List Choice) (i : ℕ) : Type 0 where
  pub none : (x : ℕ) (y : ℤ) → IsAtPosition d case i x y → ⊥
