use Rattle.std.proofs.Common.{◌≡◌, take}
use Rattle.lock_model.proofs.group.Line.copy.Given as goal

abbrev pub invariant-loop-group : goal.invariant-loop-group
invariant-loop-group l = l.items.items ≡ take l.group-index l.group-items
