use Rattle.std.proofs.Common.{ℕ, ◌<◌, slice_index_or}
use Rattle.lock_rules.specs.Lawful.{Misses}
use Rattle.chamber_times.proofs.spans.is_free.Given as goal

abbrev pub invariant-loop-closure : goal.invariant-loop-closure
invariant-loop-closure l = (i : ℕ) → i < l.closure-index → Misses l.from l.to (slice_index_or l.closure-items i (record { from = 0; to = 0 }))
