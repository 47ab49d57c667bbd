use Rattle.std.proofs.Common.{◌<◌, ℕ, slice_index_or}
use Rattle.lock_model.specs.Instance.{IsChamber}
use Rattle.lock_model.specs.Fleet.{no_chamber}
use Rattle.lock_model.proofs.within.are_chambers.Given as goal

abbrev pub invariant-loop-chamber : goal.invariant-loop-chamber
invariant-loop-chamber l = (k : ℕ) → k < l.chamber-index → IsChamber (slice_index_or l.chambers k no_chamber)
