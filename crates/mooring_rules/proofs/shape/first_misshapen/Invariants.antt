use Rattle.std.proofs.Common.{ℕ, ◌<◌}
use Rattle.std.specs.List.Sorted.{IsStrictlyIncreasing}
use Rattle.lock_rules.specs.Lines.{lockage_at}
use Rattle.mooring_rules.specs.PlanBreaks.{HasShape}
use Rattle.mooring_rules.proofs.shape.first_misshapen.Given as goal

abbrev pub invariant-loop-p : goal.invariant-loop-p
invariant-loop-p l = record {
  shaped : (k : ℕ) → k < l.p → HasShape l.instance (lockage_at l.plan k);
  rising : (k : ℕ) → k < l.p → IsStrictlyIncreasing (lockage_at l.plan k).ships;
}
