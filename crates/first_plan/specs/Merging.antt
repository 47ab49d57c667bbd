-- Plans that cost less than another, and the ships of their lockages.
use Rattle.std.specs.Prelude.{ℕ, ◌<◌, ◌≤◌, List, All, ⊤}
use Rattle.lock_model.specs.declared.group.Group.{Group}
use Rattle.lock_model.specs.declared.instance.Instance.{Instance}
use Rattle.lock_model.specs.declared.plan.Plan.{Plan}
use Rattle.lock_rules.specs.Plan.{IsLegal, cost_of}
use Rattle.lock_rules.specs.Unfit.{IsFirstUnfit}
use Rattle.first_plan.specs.declared.opening.FirstError.{FirstError}
use Rattle.first_plan.specs.declared.opening.FirstError.TheVariants.{Unfit, NoMemory}

-- the plan is legal and costs less
pub record IsBetter (I : Instance) (old new : Plan) : Type 0 where
  pub legal : IsLegal I new
  pub less : cost_of I new < cost_of I old

-- the plan is legal and costs at most so much
pub record IsAtMost (I : Instance) (limit : ℕ) (P : Plan) : Type 0 where
  pub legal : IsLegal I P
  pub most : cost_of I P ≤ limit

-- the ship is the first that fits no chamber, or there was no memory
abbrev pub IsRefusal : Instance → FirstError → Type 0
IsRefusal I (Unfit s) = IsFirstUnfit I s
IsRefusal I NoMemory = ⊤

-- the ships have numbers below n, and so have those of all groups
abbrev pub AreShipsBelow : ℕ → List ℕ → Type 0
AreShipsBelow n ships = All (λ s. s < n) ships

abbrev pub AreGroupsBelow : ℕ → List Group → Type 0
AreGroupsBelow n groups = All (λ (g : Group). AreShipsBelow n g.ships) groups
