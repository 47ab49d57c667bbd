-- Uncut plans, and costs that are swept by cuts.
use Rattle.std.specs.Prelude.{ℕ, ◌≡◌, ◌<◌, ◌≤◌, List, length, All, sum_by}
use Rattle.lock_model.specs.declared.instance.Instance.{Instance}
use Rattle.lock_model.specs.declared.group.Group.{Group}
use Rattle.lock_rules.specs.Arrival.{numbers_from}
use Rattle.lock_rules.specs.Node.{times_on}
use Rattle.price_rules.specs.Prices.{PlainCut, IsUncut, flow_over}

-- how often ship s stands in the lines of all chambers
abbrev pub times_over : Instance → ℕ → (ℕ → List Group) → ℕ
times_over I s lines = sum_by (λ c. times_on s (lines c)) (numbers_from 0 (length I.chambers))

-- An uncut plan: for each chamber a list of uncut groups of it, each ship of the instance in exactly one group of all. It costs `flow_over`.
pub record IsUncutPlan (I : Instance) (cuts : List PlainCut) (lines : ℕ → List Group) : Type 0 where
  pub uncut : (c : ℕ) → c < length I.chambers → All (IsUncut I c cuts) (lines c)
  pub once : (s : ℕ) → s < length I.ships → times_over I s lines ≡ 1

-- The cost is swept by the cuts: no uncut plan costs less.
pub record IsSwept (I : Instance) (cuts : List PlainCut) (cost : ℕ) : Type 0 where
  pub least : (lines : ℕ → List Group) → IsUncutPlan I cuts lines → cost ≤ flow_over I lines
