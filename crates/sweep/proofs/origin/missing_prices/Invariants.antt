use Rattle.std.proofs.Common.{◌≡◌, sum_by, filter, not}
use Rattle.lock_rules.specs.Arrival.{numbers_from}
use Rattle.price_rules.specs.Prices.{price_at}
use Rattle.sweep_labels.specs.Ships.{is_in}
use Rattle.sweep.proofs.origin.missing_prices.Given as goal

abbrev pub invariant-loop-ship : goal.invariant-loop-ship
invariant-loop-ship l = l.sum ≡ sum_by (price_at l.case.prices.now) (filter (λ s. not (is_in l.served.bits s)) (numbers_from 0 l.ship))
