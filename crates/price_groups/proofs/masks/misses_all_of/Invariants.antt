use Rattle.std.proofs.Common.{◌≡◌, ℕ, ◌<◌, bit_and, slice_index_or}
use Rattle.price_groups.proofs.masks.misses_all_of.Given as goal

abbrev pub invariant-loop-set : goal.invariant-loop-set
invariant-loop-set l = (k : ℕ) → k < l.set-index → ¬ (bit_and (slice_index_or l.sets k 0) l.mask ≡ slice_index_or l.sets k 0)
