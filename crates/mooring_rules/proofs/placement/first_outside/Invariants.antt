use Rattle.std.proofs.Common.{ℕ, ◌<◌}
use Rattle.lock_model.specs.Deck.{size_at}
use Rattle.lock_model.specs.Placement.{IsInside, spot_at}
use Rattle.mooring_rules.proofs.placement.first_outside.Given as goal

abbrev pub invariant-loop-i : goal.invariant-loop-i
invariant-loop-i l = (k : ℕ) → k < l.i → IsInside l.deck (size_at l.deck k) (spot_at l.spots k)
