-- What the labels that are left stand for.
use Rattle.std.specs.Prelude.{ℕ, ◌<◌, ◌≤◌, List, Contains}
use Rattle.lock_model.specs.declared.instance.Instance.{Instance}
use Rattle.lock_model.specs.declared.group.Group.{Group}
use Rattle.price_rules.specs.Prices.{PlainCut, flow_over}
use Rattle.sweep_rules.specs.Uncut.{IsUncutPlan}
use Rattle.sweep_rules.specs.Label.{Label}
use Rattle.sweep_rules.specs.Completion.{EndsBelow}

-- some label of the list has a completion of a total below the goal
pub record SomeEndsBelow (I : Instance) (cuts : List PlainCut) (goal : ℕ) (labels : List Label) : Type 0 where
  pub label : Label
  pub held : Contains labels label
  pub ends : EndsBelow I cuts goal label

-- The labels cover the uncut plans that cost less than the goal: for each of them some label has a completion of no greater total.
pub record LabelsCover (I : Instance) (cuts : List PlainCut) (goal : ℕ) (labels : List Label) : Type 0 where
  pub some : (lines : ℕ → List Group) → IsUncutPlan I cuts lines → (total : ℕ) → flow_over I lines < total → total ≤ goal
      → SomeEndsBelow I cuts total labels

-- The labels replace this one: where it has a completion below some total up to the goal, some of them has one.
pub record IsReplaced (I : Instance) (cuts : List PlainCut) (goal : ℕ) (labels : List Label) (label : Label) : Type 0 where
  pub by : (total : ℕ) → total ≤ goal → EndsBelow I cuts total label → SomeEndsBelow I cuts total labels
