use Rattle.std.proofs.Common.{ℕ, ◌<◌, ◌≤◌, length, All, slice_index_or}
use Rattle.near_plan.proofs.sets.without.Given as goal

abbrev pub invariant-loop-ship : goal.invariant-loop-ship
invariant-loop-ship l = record {
  few : length l.fewer ≤ l.ship-index;
  before : (i : ℕ) → l.ship-index ≤ i → i < length l.ship-items → All (λ s. s < slice_index_or l.ship-items i 0) l.fewer;
}
