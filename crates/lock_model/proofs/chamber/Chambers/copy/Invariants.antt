use Rattle.std.proofs.Common.{◌≡◌, take}
use Rattle.lock_model.proofs.chamber.Chambers.copy.Given as goal

abbrev pub invariant-loop-chamber : goal.invariant-loop-chamber
invariant-loop-chamber l = l.items.items ≡ take l.chamber-index l.chamber-items
