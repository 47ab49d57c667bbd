use Rattle.std.proofs.Common.{◌≡◌, filter}
use Rattle.lock_rules.specs.Arrival.{numbers_from}
use Rattle.lock_rules.specs.Lines.{lockage_at}
use Rattle.replan.specs.Kept.{starts_before}
use Rattle.replan.proofs.keeping.kept_places.Given as goal

abbrev pub invariant-loop-p : goal.invariant-loop-p
invariant-loop-p l = l.places.items ≡ filter (λ p. starts_before l.from (lockage_at l.plan p)) (numbers_from 0 l.p)
