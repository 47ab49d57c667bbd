use Rattle.std.proofs.Common.{◌≡◌, map, take}
use Rattle.lock_model.specs.Fitting.{size_of}
use Rattle.lock_model.specs.Fleet.{ship_at}
use Rattle.lock_model.proofs.fitting.deck_of.Given as goal

abbrev pub invariant-loop-number : goal.invariant-loop-number
invariant-loop-number l = l.sizes ≡ map (λ s. size_of (ship_at l.instance s)) (take l.number-index l.number-items)
