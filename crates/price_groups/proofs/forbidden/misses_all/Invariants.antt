use Rattle.std.proofs.Common.{ℕ, ◌<◌, [], slice_index_or}
use Rattle.price_groups.specs.Sparing.{AreIn}
use Rattle.price_groups.proofs.forbidden.misses_all.Given as goal

abbrev pub invariant-loop-set : goal.invariant-loop-set
invariant-loop-set l = (k : ℕ) → k < l.set-index → ¬ AreIn l.ships (slice_index_or l.sets k [])
