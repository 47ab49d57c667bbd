use Rattle.first_plan.proofs.AppendLemmas.{Appends}
use Rattle.first_plan.proofs.singles.singles_in.Given as goal

abbrev pub invariant-loop-ship : goal.invariant-loop-ship
invariant-loop-ship l = Appends l.instance l.order l.ship-index l.standings l.lockages
