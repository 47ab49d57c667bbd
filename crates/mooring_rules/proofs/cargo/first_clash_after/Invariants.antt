use Rattle.std.proofs.Common.{ℕ, ◌<◌}
use Rattle.lock_model.specs.Deck.{size_at}
use Rattle.lock_model.specs.Cargo.{GoTogether}
use Rattle.mooring_rules.proofs.cargo.first_clash_after.Given as goal

abbrev pub invariant-loop-j : goal.invariant-loop-j
invariant-loop-j l = (k : ℕ) → l.i < k → k < l.j → GoTogether (size_at l.deck l.i) (size_at l.deck k)
