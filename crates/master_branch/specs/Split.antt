-- A plan under a node that lacks a ship lies under one of its children.
use Rattle.std.specs.Prelude.{ℕ, suc, ◌≡◌, ◌<◌, length}
use Rattle.lock_model.specs.declared.instance.Instance.{Instance}
use Rattle.lock_model.specs.declared.plan.Plan.{Plan}
use Rattle.lock_rules.specs.Trace.{IsUnder}
use Rattle.master_branch.specs.Node.{children, child_lines}
use Rattle.lock_rules.specs.Node.{Node}

-- the plan lies under child i
abbrev pub IsUnderChild : Instance → Node → Plan → ℕ → Type 0
IsUnderChild I node P i = IsUnder I (suc node.depth) (child_lines I node i) P

-- the plan lies under child `number`, and under no other
pub record IsUnderOneChild (I : Instance) (node : Node) (P : Plan) : Type 0 where
  pub number : ℕ
  pub within : number < length (children I node)
  pub under : IsUnderChild I node P number
  pub only : (i : ℕ) → i < length (children I node) → IsUnderChild I node P i → i ≡ number
