use Rattle.std.proofs.Common.{length}
use Rattle.std.specs.Bool.{⊤}
use Rattle.search_worker.proofs.trail.Trail.next.Given as goal

abbrev pub invariant-loop-place : goal.invariant-loop-place
invariant-loop-place l = ⊤

abbrev pub decreases-loop-place : goal.decreases-loop-place
decreases-loop-place l = length l.self.forks.items
