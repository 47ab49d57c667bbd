use Rattle.std.proofs.Common.{ℕ, ◌<◌, length, All}
use Rattle.master_branch.specs.Steps.{group_in}
use Rattle.near_plan.proofs.known.are_all_known.Given as goal

abbrev pub invariant-loop-group : goal.invariant-loop-group
invariant-loop-group l = (k : ℕ) → k < l.group-index → All (λ s. s < length l.instance.ships) (group_in l.groups k).ships
