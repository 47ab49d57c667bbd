use Rattle.std.proofs.Common.{◌≡◌, filter, nat_eq}
use Rattle.lock_rules.specs.Arrival.{numbers_from}
use Rattle.lock_rules.specs.Plan.{served_in}
use Rattle.replan.proofs.left.ships_left.Given as goal

abbrev pub invariant-loop-ship : goal.invariant-loop-ship
invariant-loop-ship l = l.numbers ≡ filter (λ s. nat_eq (served_in l.part.lockages s) 0) (numbers_from 0 l.ship)
