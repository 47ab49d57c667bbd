use Rattle.std.proofs.Common.{ℕ, ◌≡◌, ◌<◌, ◌≤◌, not, false}
use Rattle.sweep_labels.specs.Ships.{is_in}
use Rattle.sweep.proofs.sweep_case.SweepCase.all_but.Given as goal

abbrev pub invariant-loop-ship : goal.invariant-loop-ship
invariant-loop-ship l = record {
  before : (s : ℕ) → s < l.ship → is_in l.others.bits s ≡ not (is_in l.late.bits s);
  past : (s : ℕ) → l.ship ≤ s → is_in l.others.bits s ≡ false;
}
