use Rattle.std.proofs.Common.{◌≡◌, ◌<◌, ℕ, true, slice_index_or}
use Rattle.lock_model.specs.Limits.{is_name_byte}
use Rattle.lock_model.proofs.within.is_name.Given as goal

abbrev pub invariant-loop-byte : goal.invariant-loop-byte
invariant-loop-byte l = (k : ℕ) → k < l.byte-index → is_name_byte (slice_index_or l.bytes k 0) ≡ true
