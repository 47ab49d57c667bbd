use Rattle.std.proofs.Common.{ℕ, ◌<◌}
use Rattle.lock_model.specs.Deck.{size_at}
use Rattle.lock_model.specs.Placement.{AreApart, spot_at}
use Rattle.mooring_rules.proofs.placement.first_beside.Given as goal

abbrev pub invariant-loop-j : goal.invariant-loop-j
invariant-loop-j l = (k : ℕ) → l.i < k → k < l.j → AreApart l.deck (size_at l.deck l.i) (spot_at l.spots l.i) (size_at l.deck k) (spot_at l.spots k)
