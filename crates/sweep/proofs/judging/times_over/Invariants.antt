use Rattle.std.proofs.Common.{◌≡◌, sum_by}
use Rattle.lock_rules.specs.Arrival.{numbers_from}
use Rattle.lock_rules.specs.Node.{times_on}
use Rattle.sweep.specs.Judging.{lines_in}
use Rattle.sweep.proofs.judging.times_over.Given as goal

abbrev pub invariant-loop-chamber : goal.invariant-loop-chamber
invariant-loop-chamber l = l.times ≡ sum_by (λ c. times_on l.ship (lines_in l.lines c)) (numbers_from 0 l.chamber)
