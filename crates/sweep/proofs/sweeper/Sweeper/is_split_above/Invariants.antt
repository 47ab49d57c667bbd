use Rattle.std.proofs.Common.{◌≡◌}
use Rattle.sweep.specs.Going.{IsFurther}
use Rattle.sweep.proofs.sweeper.Sweeper.is_split_above.Given as goal

abbrev pub invariant-loop-place : goal.invariant-loop-place
invariant-loop-place l = record {
  further : IsFurther l.case l.initial.self l.self;
  made : l.self.made ≡ l.initial.self.made;
}
