use Rattle.std.proofs.Common.{◌≡◌, ℕ, ◌<◌, ◌≤◌, ◌⊎◌, get_or}
use Rattle.plan_print.proofs.drawing.fill.Given as goal

abbrev pub invariant-loop-k : goal.invariant-loop-k
invariant-loop-k l = record {
  inside : (j : ℕ) → l.from ≤ j → j < l.k → get_or l.cells j 0 ≡ l.letter;
  outside : (j : ℕ) → (j < l.from) ⊎ (l.k ≤ j) → get_or l.cells j 0 ≡ get_or l.initial.cells j 0;
}
