-- A ship that a node lacks.
use Rattle.std.specs.Prelude.{ℕ, ◌≡◌, ◌<◌, List, length}
use Rattle.lock_model.specs.declared.instance.Instance.{Instance}
use Rattle.lock_model.specs.declared.group.Group.{Group}
use Rattle.lock_rules.specs.Node.{times_held}

-- a ship of the instance that stands in none of the lines
pub record IsMissing (I : Instance) (lines : List (List Group)) (s : ℕ) : Type 0 where
  pub known : s < length I.ships
  pub absent : times_held s lines ≡ 0
