use Rattle.std.proofs.Common.{◌≡◌, take}
use Rattle.lock_model.proofs.placement.Spots.copy.Given as goal

abbrev pub invariant-loop-spot : goal.invariant-loop-spot
invariant-loop-spot l = l.items.items ≡ take l.spot-index l.spot-items
