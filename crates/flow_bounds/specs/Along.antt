-- The walks along a line and the loads of its groups.
use Rattle.std.specs.Prelude.{ℕ, ◌<◌, List, [], length, slice_index_or}
use Rattle.lock_model.specs.declared.instance.Instance.{Instance}
use Rattle.lock_model.specs.declared.group.Group.{Group}
use Rattle.lock_rules.specs.Node.{line_at}
use Rattle.flow_bounds.specs.declared.line_walks.LineWalks.{LineWalks}
use Rattle.flow_bounds.specs.declared.node_walks.NodeWalks.{NodeWalks}
use Rattle.flow_bounds.specs.Load.{AreLoads}
use Rattle.flow_bounds.specs.Walk.{AreWalks}

-- these are the walks along this line of chamber c, and the loads of its groups
pub record IsAlong (I : Instance) (c : ℕ) (line : List Group) (along : LineWalks) : Type 0 where
  pub walks : AreWalks I c line along.walks
  pub loads : AreLoads I line along.loads

-- the walks along the line of chamber c
abbrev pub along_at : NodeWalks → ℕ → LineWalks
along_at walks c = slice_index_or walks.lines c (record { walks = []; loads = [] })

-- these are the walks along all lines of a node
pub record AreAlong (I : Instance) (lines : List (List Group)) (walks : NodeWalks) : Type 0 where
  pub each : (c : ℕ) → c < length I.chambers → IsAlong I c (line_at lines c) (along_at walks c)
