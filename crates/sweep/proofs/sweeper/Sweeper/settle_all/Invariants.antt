use Rattle.sweep.specs.Going.{IsFurther}
use Rattle.sweep.proofs.sweeper.Sweeper.settle_all.Given as goal

abbrev pub invariant-loop : goal.invariant-loop
invariant-loop l = IsFurther l.case l.initial.self l.self
