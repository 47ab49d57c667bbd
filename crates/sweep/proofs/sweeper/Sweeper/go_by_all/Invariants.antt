use Rattle.sweep_labels.specs.Labels.{label_of}
use Rattle.sweep.specs.Going.{IsFurther, AreLed}
use Rattle.sweep.proofs.sweeper.Sweeper.go_by_all.Given as goal

abbrev pub invariant-loop-chamber : goal.invariant-loop-chamber
invariant-loop-chamber l = record {
  further : IsFurther l.case l.initial.self l.self;
  led : AreLed l.case l.self.made (label_of l.from.label) l.chamber;
}
