use Rattle.std.proofs.Common.{◌≡◌, length}
use Rattle.solve_workers.specs.Driving.{IsDriven}
use Rattle.solve_workers.specs.Holding.{IsTidied}
use Rattle.solve_workers.proofs.driving.close_parked.Given as goal

abbrev pub invariant-loop-id : goal.invariant-loop-id
invariant-loop-id l = IsTidied l.book l.id × IsDriven l.initial.book l.book × (length l.book.slots ≡ length l.initial.book.slots)
