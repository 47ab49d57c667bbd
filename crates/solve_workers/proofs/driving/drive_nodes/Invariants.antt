use Rattle.book_rules.specs.Ends.{HoldsNothing}
use Rattle.book_rules.specs.Room.{room_of}
use Rattle.solve_workers.specs.Closable.{IsOwnSearch}
use Rattle.solve_workers.specs.Driving.{IsDriven}
use Rattle.solve_workers.specs.Holding.{IsRunning}
use Rattle.solve_workers.proofs.driving.drive_nodes.Given as goal

abbrev pub invariant-slots : goal.invariant-slots
invariant-slots g l = HoldsNothing l.book × IsRunning l.book × IsDriven l.initial.book l.book × IsOwnSearch l.book l.driver.search

abbrev pub decreases-slots : goal.decreases-slots
decreases-slots g l = room_of l.book
