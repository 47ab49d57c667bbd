use Rattle.node_work.specs.Settling.{IsPartOf}
use Rattle.node_work.proofs.cutting.least_part.Given as goal

abbrev pub invariant-loop-ship : goal.invariant-loop-ship
invariant-loop-ship l = IsPartOf l.asked.instance.now l.asked.chamber l.asked.ships.now l.least.ships l.least.refutation
