use Rattle.std.proofs.Common.{ℕ, ◌<◌, ◌≤◌}
use Rattle.day_play.specs.Order.{beat_at}
use Rattle.day_play.proofs.day.first_after.Given as goal

abbrev pub invariant-loop-i : goal.invariant-loop-i
invariant-loop-i l = (k : ℕ) → k < l.i → (beat_at l.beats k).minute ≤ l.minute
