use Rattle.std.proofs.Common.{ℕ, ◌<◌}
use Rattle.replan.specs.Lived.{IsOverInTime}
use Rattle.replan.proofs.turning.first_late_turn.Given as goal

abbrev pub invariant-loop-chamber : goal.invariant-loop-chamber
invariant-loop-chamber l = (c : ℕ) → c < l.chamber → IsOverInTime l.instance l.plan l.minute c
