use Rattle.sweep.specs.Judging.{lines_in, StandOnce}
use Rattle.sweep.proofs.judging.stand_once.Given as goal

abbrev pub invariant-loop-ship : goal.invariant-loop-ship
invariant-loop-ship l = StandOnce l.instance l.ship (lines_in l.lines)
