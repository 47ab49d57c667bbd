use Rattle.std.proofs.Common.{◌≡◌}
use Rattle.sweep_rules.specs.Completion.{EndsBelow}
use Rattle.sweep_labels.specs.Labels.{label_of}
use Rattle.sweep.specs.Bounds.{cuts_of}
use Rattle.sweep.specs.Going.{IsSound}
use Rattle.sweep.proofs.sweeper.Sweeper.late_cost.Given as goal

abbrev pub invariant-loop : goal.invariant-loop
invariant-loop l = record {
  sound : IsSound l.case l.self;
  known : l.self.known ≡ l.initial.self.known;
  none : EndsBelow l.case.instance.now (cuts_of l.case) l.cost (label_of l.label) → ⊥;
}
