use Rattle.std.proofs.Common.{◌≡◌, ◌≤◌, drop, length}
use Rattle.lock_rules.specs.Singles.{choice_from}
use Rattle.first_plan.proofs.choice.choose.Given as goal

abbrev pub decreases-loop-chamber : goal.decreases-loop-chamber
decreases-loop-chamber l = l.chamber

abbrev pub invariant-loop-chamber : goal.invariant-loop-chamber
invariant-loop-chamber l = (l.chamber ≤ length l.standings) × (l.best ≡ choice_from l.instance l.ship l.chamber (drop l.chamber l.standings))
