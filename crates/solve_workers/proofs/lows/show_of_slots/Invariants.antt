use Rattle.solve_workers.specs.Showing.{IsOnlyShown}
use Rattle.solve_workers.proofs.lows.show_of_slots.Given as goal

abbrev pub invariant-loop-id : goal.invariant-loop-id
invariant-loop-id l = IsOnlyShown l.initial.book l.book
