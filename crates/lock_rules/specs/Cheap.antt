-- How many nodes have a bound below a cost.
use Rattle.std.specs.Prelude.{ℕ, zero, suc, ◌+◌, ◌-◌, List, length, sum_by, nat_lt, if◌then◌else◌}
use Rattle.lock_model.specs.declared.instance.Instance.{Instance}
use Rattle.lock_model.specs.declared.group.Group.{Group}
use Rattle.lock_rules.specs.Children.{children_of}
use Rattle.lock_rules.specs.Bound.{bound_of}

-- 1 where the bound is below b
abbrev pub is_cheap : Instance → ℕ → ℕ → List (List Group) → ℕ
is_cheap I b k lines = if nat_lt (bound_of I k lines) b then 1 else 0

-- how many nodes of the tree from this node on have a bound below b; `left` ships are missing
abbrev pub cheap_from : Instance → ℕ → ℕ → ℕ → List (List Group) → ℕ
cheap_from I b zero k lines = is_cheap I b k lines
cheap_from I b (suc left) k lines = is_cheap I b k lines + sum_by (cheap_from I b left (suc k)) (children_of I k lines)

-- how many nodes from this node of depth k on have a bound below b
abbrev pub cheap_nodes : Instance → ℕ → ℕ → List (List Group) → ℕ
cheap_nodes I b k lines = cheap_from I b (length I.ships - k) k lines
