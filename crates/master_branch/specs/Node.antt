-- The nodes of an instance, and their children.
use Rattle.std.specs.Prelude.{ℕ, List, length, slice_index_or}
use Rattle.lock_model.specs.declared.instance.Instance.{Instance}
use Rattle.lock_model.specs.declared.group.Group.{Group}
use Rattle.lock_rules.specs.Node.{Node, IsNode, root_lines}
use Rattle.lock_rules.specs.Children.{children_of}
use Rattle.lock_rules.specs.Size.{node_limit}

-- the node is one of the instance
abbrev pub IsNodeOf : Instance → Node → Type 0
IsNodeOf I node = IsNode I node.depth node.lines

-- the lines of its children, and those of child i
abbrev pub children : Instance → Node → List (List (List Group))
children I node = children_of I node.depth node.lines

abbrev pub child_lines : Instance → Node → ℕ → List (List Group)
child_lines I node i = slice_index_or (children I node) i root_lines

-- N(n,m) of the instance's n ships and m chambers: no tree of it has more nodes
abbrev pub node_limit_of : Instance → ℕ
node_limit_of I = node_limit (length I.ships) (length I.chambers)
