use Rattle.std.proofs.Common.{ℕ, ◌<◌, ◌≡◌, true, false, slice_index_or}
use Rattle.flow_bounds.proofs.reaching.Reached.all.Given as goal

abbrev pub invariant-loop-reached : goal.invariant-loop-reached
invariant-loop-reached l = (k : ℕ) → k < l.reached-index → slice_index_or l.reached-items k false ≡ true
