use Rattle.std.proofs.Common.{◌≡◌, ◌++◌, take}
use Rattle.price_successors.proofs.choosing.append_all.Given as goal

abbrev pub invariant-loop-successor : goal.invariant-loop-successor
invariant-loop-successor l = l.successors.items ≡ l.initial.successors.items ++ take l.successor-index l.more
