use Rattle.std.proofs.Common.{◌≡◌, take}
use Rattle.flow_bounds.proofs.probing.Bounds.copy.Given as goal

abbrev pub invariant-loop-bound : goal.invariant-loop-bound
invariant-loop-bound l = l.items.items ≡ take l.bound-index l.bound-items
