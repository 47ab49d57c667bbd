use Rattle.std.proofs.Common.{◌≡◌, take}
use Rattle.lock_model.proofs.closure.Closures.copy.Given as goal

abbrev pub invariant-loop-closure : goal.invariant-loop-closure
invariant-loop-closure l = l.items.items ≡ take l.closure-index l.closure-items
