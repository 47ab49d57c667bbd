use Rattle.std.proofs.Common.{◌≡◌, filter}
use Rattle.lock_rules.specs.Arrival.{numbers_from}
use Rattle.plan_text.specs.Berths.{has_berth}
use Rattle.plan_text.proofs.lockages.ships_of.Given as goal

abbrev pub invariant-loop-ship : goal.invariant-loop-ship
invariant-loop-ship l = l.ships ≡ filter (λ s. has_berth s l.berths) (numbers_from 0 l.ship)
