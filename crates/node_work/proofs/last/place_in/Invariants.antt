use Rattle.node_work.specs.Last.{IsLacked}
use Rattle.node_work.proofs.last.place_in.Given as goal

abbrev pub invariant-loop-place : goal.invariant-loop-place
invariant-loop-place l = IsLacked l.line l.ship l.place
