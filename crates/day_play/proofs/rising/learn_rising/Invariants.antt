use Rattle.std.proofs.Common.{ℕ, ◌<◌, slice_index_or}
use Rattle.std.specs.List.Sorted.{IsStrictlyIncreasing}
use Rattle.lock_rules.specs.Lines.{no_lockage}
use Rattle.day_play.proofs.rising.learn_rising.Given as goal

abbrev pub invariant-loop-lockage : goal.invariant-loop-lockage
invariant-loop-lockage l = (k : ℕ) → k < l.lockage-index → IsStrictlyIncreasing (slice_index_or l.lockage-items k no_lockage).ships
