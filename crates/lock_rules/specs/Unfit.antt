-- Ships that fit no chamber.
use Rattle.std.specs.Prelude.{ℕ, ◌<◌, length}
use Rattle.lock_model.specs.Fleet.{ship_at, chamber_at}
use Rattle.lock_model.specs.Fitting.{FitsAlone}
use Rattle.lock_model.specs.declared.instance.Instance.{Instance}

-- no chamber takes the ship
abbrev pub IsUnfit : Instance → ℕ → Type 0
IsUnfit I s = (c : ℕ) → c < length I.chambers → FitsAlone (chamber_at I c) (ship_at I s) → ⊥

-- some chamber takes the ship
pub record FitsSome (I : Instance) (s : ℕ) : Type 0 where
  pub chamber : ℕ
  pub known : chamber < length I.chambers
  pub fits : FitsAlone (chamber_at I chamber) (ship_at I s)

-- the first ship, in instance order, that no chamber takes
pub record IsFirstUnfit (I : Instance) (s : ℕ) : Type 0 where
  pub known : s < length I.ships
  pub unfit : IsUnfit I s
  pub first : (t : ℕ) → t < s → FitsSome I t

-- each ship fits some chamber alone
pub record HasNoUnfit (I : Instance) : Type 0 where
  pub fit : (s : ℕ) → s < length I.ships → FitsSome I s
