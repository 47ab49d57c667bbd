use Rattle.sweep.specs.Going.{IsSound}
use Rattle.sweep.proofs.sweeping.sweep_goals.Given as goal

abbrev pub invariant-loop : goal.invariant-loop
invariant-loop l = IsSound l.case l.sweeper
