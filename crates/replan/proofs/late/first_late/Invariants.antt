use Rattle.std.proofs.Common.{ℕ, ◌<◌}
use Rattle.lock_rules.specs.Lines.{lockage_at}
use Rattle.replan.specs.Kept.{EndsInTime}
use Rattle.replan.proofs.late.first_late.Given as goal

abbrev pub invariant-loop-p : goal.invariant-loop-p
invariant-loop-p l = (k : ℕ) → k < l.p → EndsInTime l.instance (lockage_at l.part k)
