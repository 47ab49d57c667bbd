-- What a search of the whole tree comes to: the nodes with all ships whose groups fit, and the least of their bounds.
use Rattle.std.specs.Prelude.{ℕ, zero, suc, ◌≡◌, ◌≤◌, ◌<◌, ◌⊎◌, List, length, All, Contains}
use Rattle.lock_model.specs.Fitting.{deck_of, Fits}
use Rattle.lock_model.specs.declared.instance.Instance.{Instance}
use Rattle.lock_model.specs.declared.group.Group.{Group}
use Rattle.lock_model.specs.declared.plan.Plan.{Plan}
use Rattle.lock_rules.specs.Plan.{IsLegal, IsCheapest, cost_of}
use Rattle.lock_rules.specs.Node.{line_at, root_lines}
use Rattle.lock_rules.specs.Children.{children_of}
use Rattle.lock_rules.specs.Trace.{IsUnder}
use Rattle.lock_rules.specs.Bound.{bound_of}

-- The ships that the lines lack are put in one after the other, each by a step to a child, which gives `whole`; `left` are missing.
abbrev pub LeadsToWhole : Instance → ℕ → ℕ → List (List Group) → List (List Group) → Type 0
LeadsToWhole I zero k lines whole = lines ≡ whole
LeadsToWhole I (suc left) k lines whole = (child : List (List Group)) × Contains (children_of I k lines) child × LeadsToWhole I left (suc k) child whole

-- each group of the lines fits its chamber
pub record FitGroups (I : Instance) (lines : List (List Group)) : Type 0 where
  pub each : (c : ℕ) → c < length I.chambers → All (λ g. Fits (deck_of I c g.ships)) (line_at lines c)

-- a node below these lines that holds all ships and whose groups all fit
pub record IsWholeUnder (I : Instance) (left k : ℕ) (lines whole : List (List Group)) : Type 0 where
  pub leads : LeadsToWhole I left k lines whole
  pub fit : FitGroups I whole

-- such a node of the tree from its root on
abbrev pub IsWholeNode : Instance → List (List Group) → Type 0
IsWholeNode I whole = IsWholeUnder I (length I.ships) 0 root_lines whole

-- the bound of such a node
abbrev pub whole_bound : Instance → List (List Group) → ℕ
whole_bound I lines = bound_of I (length I.ships) lines

-- b is the least bound of these nodes below the lines
pub record IsLeastUnder (I : Instance) (left k : ℕ) (lines : List (List Group)) (b : ℕ) : Type 0 where
  pub node : List (List Group)
  pub whole : IsWholeUnder I left k lines node
  pub own : whole_bound I node ≡ b
  pub least : (other : List (List Group)) → IsWholeUnder I left k lines other → b ≤ whole_bound I other

-- b is the least bound of all of them
abbrev pub IsLeastBound : Instance → ℕ → Type 0
IsLeastBound I b = IsLeastUnder I (length I.ships) 0 root_lines b

-- the plan lies under such a node, and costs at least its bound
pub record HasWholeNode (I : Instance) (P : Plan) : Type 0 where
  pub node : List (List Group)
  pub whole : IsWholeNode I node
  pub under : IsUnder I (length I.ships) node P
  pub low : whole_bound I node ≤ cost_of I P

-- a legal plan lies under the node and costs its bound
pub record HasPlanAtBound (I : Instance) (lines : List (List Group)) : Type 0 where
  pub plan : Plan
  pub legal : IsLegal I plan
  pub under : IsUnder I (length I.ships) lines plan
  pub cost : cost_of I plan ≡ whole_bound I lines

-- some cheapest plan costs b
pub record IsCheapestCost (I : Instance) (b : ℕ) : Type 0 where
  pub plan : Plan
  pub cheapest : IsCheapest I plan
  pub cost : cost_of I plan ≡ b

-- it is known of each group whether it fits its chamber
pub record FitsAreDecided (I : Instance) : Type 0 where
  pub each : (c : ℕ) (ships : List ℕ) → Fits (deck_of I c ships) ⊎ ¬ Fits (deck_of I c ships)
