use Rattle.std.proofs.Common.{◌≤◌, length}
use Rattle.sweep.specs.Bounds.{AreSameLanes}
use Rattle.sweep.proofs.late_costs.all_late_ships.Given as goal

abbrev pub invariant-loop-most : goal.invariant-loop-most
invariant-loop-most l = record {
  same : AreSameLanes l.initial.lanes l.lanes;
  few : length l.all.items ≤ l.most;
}
