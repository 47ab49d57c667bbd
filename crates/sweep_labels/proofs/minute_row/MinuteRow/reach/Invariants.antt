use Rattle.std.proofs.Common.{◌≡◌, ℕ, None, length, slice_index_or}
use Rattle.sweep_labels.proofs.minute_row.MinuteRow.reach.Given as goal

abbrev pub invariant-loop-place : goal.invariant-loop-place
invariant-loop-place g l = record {
  long : length l.self.items.items ≡ l.place;
  each : (m : ℕ) → slice_index_or l.self.items.items m None ≡ slice_index_or l.initial.self.items.items m None;
}
