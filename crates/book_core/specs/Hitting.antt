-- A cut that hits a line, or misses it.
use Rattle.std.specs.Prelude.{ℕ, List, Contains}
use Rattle.lock_model.specs.declared.instance.Instance.{Instance}
use Rattle.lock_model.specs.declared.group.Group.{Group}
use Rattle.lock_rules.specs.Cut.{Hits}
use Rattle.refute_rules.specs.Cuts.{Cut}

-- the cut hits a group of the line of chamber c
pub record HitsLine (cut : Cut) (I : Instance) (c : ℕ) (line : List Group) : Type 0 where
  pub group : Group
  pub held : Contains line group
  pub hits : Hits cut.ships cut.deck I c group.ships

-- it misses a group, and each group of a line
pub record MissesGroup (cut : Cut) (I : Instance) (c : ℕ) (group : Group) : Type 0 where
  pub missed : Hits cut.ships cut.deck I c group.ships → ⊥

pub record MissesLine (cut : Cut) (I : Instance) (c : ℕ) (line : List Group) : Type 0 where
  pub misses : HitsLine cut I c line → ⊥
