use Rattle.std.proofs.Common.{take}
use Rattle.price_successors.specs.SuccessorLists.{AreFor}
use Rattle.price_successors.proofs.successor_lists.successors_for.Given as goal

abbrev pub invariant-loop-successor : goal.invariant-loop-successor
invariant-loop-successor l = AreFor l.place (take l.successor-index l.successors) l.fors.items
