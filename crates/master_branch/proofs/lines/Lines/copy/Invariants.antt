use Rattle.std.proofs.Common.{◌≡◌, take}
use Rattle.master_branch.proofs.lines.Lines.copy.Given as goal

abbrev pub invariant-loop-group : goal.invariant-loop-group
invariant-loop-group l = l.row.items ≡ take l.group-index l.group-items
