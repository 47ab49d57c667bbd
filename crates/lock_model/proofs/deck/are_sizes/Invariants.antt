use Rattle.std.proofs.Common.{◌<◌, ℕ, slice_index_or}
use Rattle.lock_model.specs.Deck.{IsSize, no_size}
use Rattle.lock_model.proofs.deck.are_sizes.Given as goal

abbrev pub invariant-loop-size : goal.invariant-loop-size
invariant-loop-size l = (k : ℕ) → k < l.size-index → IsSize (slice_index_or l.sizes k no_size)
