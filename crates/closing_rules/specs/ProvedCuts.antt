-- A cut with its refutation, and when it is proved.
use Rattle.std.specs.Prelude.{ℕ, ◌≤◌, ◌<◌, List, length, All}
use Rattle.std.specs.List.Sorted.{IsStrictlyIncreasing}
use Rattle.lock_model.specs.declared.limits.TheConstants.{MOST}
use Rattle.lock_model.specs.Fitting.{deck_of}
use Rattle.lock_model.specs.declared.instance.Instance.{Instance}
use Rattle.refute_rules.specs.declared.refutation.Refutation.{Refutation}
use Rattle.refute_rules.specs.Refutes.{IsRefuted}

-- The type of the ships keeps that they rise and are at most eight.
pub record CertCut : Type 0 where
  pub chamber : ℕ
  pub ships : List ℕ
  pub refutation : Refutation

-- what the type of a cut's ships keeps
pub record AreShips (ships : List ℕ) : Type 0 where
  pub rising : IsStrictlyIncreasing ships
  pub few : length ships ≤ MOST

-- the cut is about a chamber and one or more ships of the instance
pub record IsShaped (I : Instance) (c : CertCut) : Type 0 where
  pub chamber : c.chamber < length I.chambers
  pub some : 1 ≤ length c.ships
  pub known : All (λ s. s < length I.ships) c.ships
  pub kept : AreShips c.ships

-- and its refutation holds for their deck
pub record IsProved (I : Instance) (c : CertCut) : Type 0 where
  pub shaped : IsShaped I c
  pub refuted : IsRefuted (deck_of I c.chamber c.ships) c.refutation
