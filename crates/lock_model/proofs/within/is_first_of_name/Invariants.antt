use Rattle.std.proofs.Common.{◌≢◌, ◌<◌, ℕ, slice_index_or}
use Rattle.lock_model.proofs.within.is_first_of_name.Given as goal

abbrev pub invariant-loop-k : goal.invariant-loop-k
invariant-loop-k g l = (j : ℕ) (d : g.row.T.Denot) → j < l.k → g.T.Named.name_of (slice_index_or l.items j d) ≢ g.T.Named.name_of (slice_index_or l.items l.i d)
