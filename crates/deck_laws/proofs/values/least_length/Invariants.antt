use Rattle.std.proofs.Common.{◌≡◌, drop, map}
use Rattle.lock_model.specs.declared.deck.Size.{Size}
use Rattle.lock_rules.specs.Bound.{least_number}
use Rattle.deck_laws.proofs.LeastLemmas.{least_from}
use Rattle.deck_laws.proofs.values.least_length.Given as goal

abbrev pub invariant-loop-size : goal.invariant-loop-size
invariant-loop-size l = least_from l.least (drop l.size-index l.sizes) ≡ least_number (map (λ (s : Size). s.length) l.sizes)
