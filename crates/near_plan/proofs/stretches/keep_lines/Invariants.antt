use Rattle.near_plan.proofs.stretches.keep_lines.Given as goal

abbrev pub invariant-loop-chamber : goal.invariant-loop-chamber
invariant-loop-chamber l = Unit {0}
