use Rattle.solve_workers.specs.Settling.{AreHeldFrom, IsGivenBack}
use Rattle.solve_workers.proofs.settling.release_others.Given as goal

abbrev pub invariant-loop-worker : goal.invariant-loop-worker
invariant-loop-worker l = AreHeldFrom l.worker l.book × IsGivenBack l.initial.book l.book
