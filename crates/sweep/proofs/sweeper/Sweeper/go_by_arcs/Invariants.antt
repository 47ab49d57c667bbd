use Rattle.sweep.specs.Going.{IsFurther, AreArcsLed}
use Rattle.sweep.proofs.sweeper.Sweeper.go_by_arcs.Given as goal

abbrev pub invariant-loop-place : goal.invariant-loop-place
invariant-loop-place l = record {
  further : IsFurther l.case l.initial.self l.self;
  led : AreArcsLed l.case l.self.made l.from.label l.chamber l.way l.place l.arcs;
}
