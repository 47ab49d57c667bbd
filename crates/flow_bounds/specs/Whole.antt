-- What the bound of a node that holds all ships is.
use Rattle.std.specs.Prelude.{ℕ, ◌≡◌, List, length}
use Rattle.lock_model.specs.declared.instance.Instance.{Instance}
use Rattle.lock_model.specs.declared.group.Group.{Group}
use Rattle.lock_model.specs.declared.placement.Spot.{Spot}
use Rattle.lock_rules.specs.Plan.{IsLegal, cost_of}
use Rattle.lock_rules.specs.Trace.{IsUnder}
use Rattle.lock_rules.specs.Leaf.{plan_of, AllFit}

-- the lines at the earliest, with these spots, make a legal plan under them that costs b
pub record IsEarliestCost (I : Instance) (spots : ℕ → Group → List Spot) (lines : List (List Group)) (b : ℕ) : Type 0 where
  pub legal : IsLegal I (plan_of I spots lines)
  pub under : IsUnder I (length I.ships) lines (plan_of I spots lines)
  pub cost : cost_of I (plan_of I spots lines) ≡ b

-- Where the node of depth k holds all ships and its groups lie legally at some spots, b is the cost of its earliest plan.
abbrev pub IsWholeCost : Instance → ℕ → List (List Group) → ℕ → Type 0
IsWholeCost I k lines b = k ≡ length I.ships → (spots : ℕ → Group → List Spot) → AllFit I spots lines → IsEarliestCost I spots lines b
