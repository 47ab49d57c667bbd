-- Whether two instances are the same, and two nodes.
use Rattle.std.specs.Prelude.{Bool, ◌&&◌, nat_eq}
use Rattle.std.specs.Cmp.Lexicographic.{pointwise}
use Rattle.lock_model.specs.declared.instance.Instance.{Instance}
use Rattle.lock_model.specs.contracts.instance.InstancePartialEq.TheImpl as instance_eq
use Rattle.lock_model.specs.declared.group.Group.{Group}
use Rattle.lock_rules.specs.Node.{Node}
use Rattle.lock_rules.specs.Children.{same_way}

-- by each field of their chambers and ships, as the derived `==` compares them
abbrev pub same_instance : Instance → Instance → Bool
same_instance = (instance_eq.ghosts).eq

abbrev pub same_group : Group → Group → Bool
same_group a b = same_way a.way b.way && pointwise nat_eq a.ships b.ships

abbrev pub same_node : Node → Node → Bool
same_node a b = nat_eq a.depth b.depth && pointwise (pointwise same_group) a.lines b.lines
