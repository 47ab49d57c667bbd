use Rattle.sweep_labels.specs.Labels.{AreAllNoLater}
use Rattle.sweep_labels.proofs.label.are_no_later.Given as goal

abbrev pub invariant-loop-chamber : goal.invariant-loop-chamber
invariant-loop-chamber l = AreAllNoLater l.chamber l.one l.other
