use Rattle.std.proofs.Common.{◌≡◌, map}
use Rattle.lock_rules.specs.Arrival.{numbers_from}
use Rattle.replan.specs.Begun.{chamber_begun}
use Rattle.replan.specs.Lived.{opened_from}
use Rattle.replan.proofs.lived.chambers_lived.Given as goal

abbrev pub invariant-loop-chamber : goal.invariant-loop-chamber
invariant-loop-chamber l = l.chambers ≡ map (λ c. opened_from l.minute (chamber_begun l.instance l.plan l.minute c)) (numbers_from 0 l.chamber)
