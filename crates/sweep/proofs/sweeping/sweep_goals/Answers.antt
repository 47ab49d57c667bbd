use Rattle.std.proofs.Common.{sym, subst}
use Rattle.sweep.specs.Going.{IsSound}
use Rattle.sweep.proofs.sweeping.sweep_goals.Goals.{then-done-2, else-done-2+in_ok-late+else-not-looks+else-not-is_empty}
use Rattle.sweep.proofs.sweeping.sweep_goals.Goals as goal

pub loop-preserved : goal.loop-preserved
loop-preserved c = elim c.if-done-2.branch [
  | then-done-2 w ↦ subst (IsSound c.args.case.now) (sym w.sweeper-is) c.in_ok-done.ensures.sound
  | else-done-2+in_ok-late+else-not-looks+else-not-is_empty w ↦ subst (IsSound c.args.case.now) (sym w.sweeper-is) w.in_ok-late.ensures
]
