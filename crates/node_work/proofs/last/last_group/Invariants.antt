use Rattle.node_work.specs.Last.{IsLackedBelow}
use Rattle.node_work.proofs.last.last_group.Given as goal

abbrev pub invariant-loop-chamber : goal.invariant-loop-chamber
invariant-loop-chamber l = IsLackedBelow l.node.lines l.ship l.chamber
