use Rattle.std.proofs.Common.{ℕ, ◌<◌, slice_index_or}
use Rattle.boxcar.specs.Table.{Where}
use Rattle.cut_pool.specs.declared.entry.Entry.{Entry}
use Rattle.cut_pool.specs.Hitting.{IsHit}
use Rattle.cut_pool.proofs.pool.Pool.find_known.Given as goal

abbrev pub invariant-loop-token : goal.invariant-loop-token
invariant-loop-token l = (k : ℕ) (d : Where Entry) → k < l.token-index → IsHit (slice_index_or l.tokens k d).value l.instance l.chamber l.ships → ⊥
