use Rattle.std.proofs.Common.{◌≡◌, sum_by, filter, not}
use Rattle.lock_rules.specs.Arrival.{numbers_from}
use Rattle.sweep_labels.specs.Ships.{is_in}
use Rattle.sweep.specs.Soonest.{cost_from}
use Rattle.sweep.proofs.soonest.missing_cost.Given as goal

abbrev pub invariant-loop-ship : goal.invariant-loop-ship
invariant-loop-ship l = l.sum ≡ sum_by (cost_from l.case l.soonest) (filter (λ s. not (is_in l.served.bits s)) (numbers_from 0 l.ship))
