use Rattle.book_rules.specs.Ends.{HoldsNothing}
use Rattle.solve_workers.specs.Driving.{IsDriven}
use Rattle.solve_workers.proofs.hardness.post_cuts.Given as goal

abbrev pub invariant-loop-number : goal.invariant-loop-number
invariant-loop-number l = HoldsNothing l.book × IsDriven l.initial.book l.book
