use Rattle.std.proofs.Common.{◌≡◌, ◌≤◌, take}
use Rattle.resume_command.specs.Prior.{prior_of}
use Rattle.resume_command.proofs.counting.count.Given as goal

abbrev pub invariant-loop-mark : goal.invariant-loop-mark
invariant-loop-mark l = record {
  total : l.count ≡ prior_of (take l.mark-index l.marks);
  few : l.count ≤ l.mark-index;
}
