use Rattle.price_successors.specs.SuccessorLists.{AreLateListsFor}
use Rattle.price_successors.proofs.successor_lists.late_lists_for.Given as goal

abbrev pub invariant-loop-late_list : goal.invariant-loop-late_list
invariant-loop-late_list l = AreLateListsFor l.place l.late_lists l.late_list-index l.fors.items
