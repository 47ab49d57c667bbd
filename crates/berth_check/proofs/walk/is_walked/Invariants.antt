use Rattle.std.proofs.Common.{◌∷◌, ◌-◌, length}
use Rattle.berth_check.proofs.StepLemmas.{IsWalked}
use Rattle.berth_check.proofs.walk.is_walked.Given as goal

abbrev pub decreases-loop-pending : goal.decreases-loop-pending
decreases-loop-pending l = length l.marks - l.at

abbrev pub invariant-loop-pending : goal.invariant-loop-pending
invariant-loop-pending l = IsWalked l.deck (l.pending.case ∷ l.pending.others) l.marks l.at
