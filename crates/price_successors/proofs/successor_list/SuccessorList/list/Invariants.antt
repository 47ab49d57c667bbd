use Rattle.std.proofs.Common.{◌≡◌, drop}
use Rattle.price_successors.specs.LateLists.{list_at}
use Rattle.price_successors.proofs.successor_list.SuccessorList.list.Given as goal

abbrev pub invariant-loop-late_list : goal.invariant-loop-late_list
invariant-loop-late_list l = list_at l.successors (drop l.late_list-index l.self.late_lists.items) l.minute ≡ list_at l.self.successors.items l.self.late_lists.items l.minute
