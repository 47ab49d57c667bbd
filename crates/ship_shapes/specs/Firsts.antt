-- The first row and the first column of a deck.
use Rattle.std.specs.Prelude.{ℕ, ◌^◌, ◌<◌, List, sum_by}
use Rattle.lock_model.specs.Deck.{Deck}
use Rattle.refute_rules.specs.Reasons.{IsRow, IsColumn}

pub record HasNoRow (d : Deck) : Type 0 where
  pub none : (S : List ℕ) → IsRow d S → ⊥

pub record HasNoColumn (d : Deck) : Type 0 where
  pub none : (S : List ℕ) → IsColumn d S → ⊥

-- a row, and no row's set has a lower number
pub record IsFirstRow (d : Deck) (S : List ℕ) : Type 0 where
  pub row : IsRow d S
  pub first : (T : List ℕ) → sum_by (λ i. 2 ^ i) T < sum_by (λ i. 2 ^ i) S → IsRow d T → ⊥

-- the same of columns
pub record IsFirstColumn (d : Deck) (S : List ℕ) : Type 0 where
  pub column : IsColumn d S
  pub first : (T : List ℕ) → sum_by (λ i. 2 ^ i) T < sum_by (λ i. 2 ^ i) S → IsColumn d T → ⊥
