-- What a case has decided of a ship.
use Rattle.std.specs.Prelude.{ℕ, ◌≡◌, ◌≢◌, List, [], ◌∷◌, nat_eq, if◌then◌else◌, Some, None}
use Rattle.std.specs.declared.option.Option.{Option}
use Rattle.lock_model.specs.declared.placement.Rank.{Rank}
use Rattle.lock_model.specs.declared.placement.Moor.TheVariants.{Ship}
use Rattle.refute_rules.specs.declared.choices.Berth.{Berth}
use Rattle.refute_rules.specs.declared.choices.Choice.{Choice}
use Rattle.refute_rules.specs.declared.choices.Choice.TheVariants.{Lies, Before, Below, LiesAt}

-- the berth of ship i, where it is decided
abbrev pub berth_in : List Choice → ℕ → Option Berth
berth_in [] i = None
berth_in (Lies j b ∷ cs) i = if nat_eq j i then Some b else berth_in cs i
berth_in (Before j k ∷ cs) i = berth_in cs i
berth_in (Below j k ∷ cs) i = berth_in cs i
berth_in (LiesAt j v ∷ cs) i = berth_in cs i

-- the x of ship i, where it is decided
abbrev pub x_in : List Choice → ℕ → Option ℕ
x_in [] i = None
x_in (Lies j b ∷ cs) i = x_in cs i
x_in (Before j k ∷ cs) i = x_in cs i
x_in (Below j k ∷ cs) i = x_in cs i
x_in (LiesAt j v ∷ cs) i = if nat_eq j i then Some v else x_in cs i

-- ship i is decided to lie at a host, the host's berth is decided too, and it is of the other rank
pub record HasOtherRank (case : List Choice) (i : ℕ) : Type 0 where
  pub host : ℕ
  pub own : Rank
  pub berth : Berth
  pub lies : berth_in case i ≡ Some (record { rank = own; moor = Ship host })
  pub decided : berth_in case host ≡ Some berth
  pub differ : berth.rank ≢ own
