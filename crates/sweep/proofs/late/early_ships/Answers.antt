use Rattle.std.proofs.Common.{length, ap, ◌∙◌}
use Rattle.sweep.proofs.EndLemmas.{count_more}
use Rattle.sweep.proofs.late.early_ships.Goals as goal

pub loop-ship-preserved : goal.loop-ship-preserved
loop-ship-preserved c = ap length c.in_ok-append.ensures ∙ count_more c.loop-ship.early.items c.loop-ship.ship _ c.loop-ship.invariant
