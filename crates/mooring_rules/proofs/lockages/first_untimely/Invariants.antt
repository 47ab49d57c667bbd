use Rattle.std.proofs.Common.{ℕ, ◌<◌}
use Rattle.lock_rules.specs.Plan.{IsTimely}
use Rattle.mooring_rules.proofs.lockages.first_untimely.Given as goal

abbrev pub invariant-loop-chamber : goal.invariant-loop-chamber
invariant-loop-chamber l = (k : ℕ) → k < l.chamber → IsTimely l.instance l.plan k
