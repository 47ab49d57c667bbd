use Rattle.std.proofs.Common.{◌≡◌, ℕ, ◌<◌, false}
use Rattle.sweep_labels.specs.Putting.{open_at}
use Rattle.sweep_labels.proofs.labels.are_closed.Given as goal

abbrev pub invariant-loop-one : goal.invariant-loop-one
invariant-loop-one l = (k : ℕ) → k < l.one-index → open_at l.are_open k ≡ false
