use Rattle.std.proofs.Common.{ℕ, ◌<◌}
use Rattle.lock_rules.specs.Unfit.{FitsSome}
use Rattle.mooring_rules.proofs.unfit.first_unfit.Given as goal

abbrev pub invariant-loop-ship : goal.invariant-loop-ship
invariant-loop-ship l = (s : ℕ) → s < l.ship → FitsSome l.instance s
