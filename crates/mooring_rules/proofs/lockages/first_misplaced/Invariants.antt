use Rattle.std.proofs.Common.{ℕ, ◌<◌}
use Rattle.lock_rules.specs.Lines.{lockage_at}
use Rattle.mooring_rules.specs.PlanBreaks.{IsPlaced}
use Rattle.mooring_rules.proofs.lockages.first_misplaced.Given as goal

abbrev pub invariant-loop-p : goal.invariant-loop-p
invariant-loop-p l = (k : ℕ) → k < l.p → IsPlaced l.instance (lockage_at l.plan k)
