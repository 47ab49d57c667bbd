use Rattle.std.proofs.Common.{◌≡◌, map}
use Rattle.lock_rules.specs.Arrival.{numbers_from}
use Rattle.replan.specs.Rest.{chamber_after}
use Rattle.replan.proofs.standing.chambers_after.Given as goal

abbrev pub invariant-loop-chamber : goal.invariant-loop-chamber
invariant-loop-chamber l = l.chambers ≡ map (chamber_after l.instance l.kept) (numbers_from 0 l.chamber)
