use Rattle.std.proofs.Common.{◌≡◌, take}
use Rattle.lock_model.proofs.deck.Sizes.copy.Given as goal

abbrev pub invariant-loop-size : goal.invariant-loop-size
invariant-loop-size l = l.items.items ≡ take l.size-index l.size-items
