use Rattle.std.proofs.Common.{◌≡◌, length}
use Rattle.lock_model.specs.declared.limits.TheConstants.{CHAMBERS}
use Rattle.sweep_labels.specs.Labels.{label_of}
use Rattle.sweep.specs.Bounds.{AreLanesOf, AreSameLanes, AreGainsTo}
use Rattle.sweep.proofs.origin.gains_of.Given as goal

abbrev pub invariant-loop-chamber : goal.invariant-loop-chamber
invariant-loop-chamber l = record {
  lanes : AreLanesOf l.case l.first l.lanes;
  same : AreSameLanes l.initial.lanes l.lanes;
  room : length l.gains ≡ CHAMBERS;
  all : AreGainsTo l.case (label_of l.label) l.chamber l.gains;
}
