use Rattle.std.proofs.Common.{◌≡◌, ◌-◌, length}
use Rattle.price_groups.specs.Asked.{line_asked}
use Rattle.price_successors.specs.SuccessorLists.{list_of}
use Rattle.price_table.specs.Values.{IsFrame}
use Rattle.price_successors.specs.declared.successor_list.SuccessorList.{SuccessorList}
use Rattle.price_table.proofs.counting.advance.Given as goal

abbrev pub decreases-loop-frame : goal.decreases-loop-frame
decreases-loop-frame l = length l.successors - l.frame.next

abbrev pub invariant-loop-frame : goal.invariant-loop-frame
invariant-loop-frame l = record {
  frame : IsFrame (line_asked l.table.case.now) l.table.horizon l.table.successor_lists.now l.frame;
  listed : (e : SuccessorList) → l.successors ≡ list_of l.table.successor_lists.now e l.frame.ready.state.place l.frame.ready.state.minute;
}
