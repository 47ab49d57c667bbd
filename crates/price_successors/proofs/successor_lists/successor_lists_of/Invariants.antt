use Rattle.price_successors.specs.SuccessorLists.{AreMade}
use Rattle.price_successors.proofs.successor_lists.successor_lists_of.Given as goal

abbrev pub invariant-loop-place : goal.invariant-loop-place
invariant-loop-place l = AreMade l.successors l.late_lists l.place l.successor_lists.items
