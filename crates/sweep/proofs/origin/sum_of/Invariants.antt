use Rattle.std.proofs.Common.{◌≡◌, sum_by}
use Rattle.lock_rules.specs.Arrival.{numbers_from}
use Rattle.sweep.specs.Bounds.{gain_in}
use Rattle.sweep.proofs.origin.sum_of.Given as goal

abbrev pub invariant-loop-chamber : goal.invariant-loop-chamber
invariant-loop-chamber l = l.sum ≡ sum_by (gain_in l.gains) (numbers_from 0 l.chamber)
