use Rattle.std.proofs.Common.{◌≡◌, take}
use Rattle.lock_model.proofs.plan.Lockages.copy.Given as goal

abbrev pub invariant-loop-lockage : goal.invariant-loop-lockage
invariant-loop-lockage l = l.items.items ≡ take l.lockage-index l.lockage-items
