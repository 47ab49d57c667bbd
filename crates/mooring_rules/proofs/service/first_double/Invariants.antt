use Rattle.std.proofs.Common.{ℕ, ◌<◌, ◌≤◌}
use Rattle.lock_rules.specs.Plan.{served_in}
use Rattle.mooring_rules.proofs.service.first_double.Given as goal

abbrev pub invariant-loop-ship : goal.invariant-loop-ship
invariant-loop-ship l = (k : ℕ) → k < l.ship → served_in l.plan.lockages k ≤ 1
