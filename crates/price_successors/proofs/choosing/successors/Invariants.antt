use Rattle.std.proofs.Common.{All}
use Rattle.price_groups.specs.Asked.{line_asked, group_asked}
use Rattle.price_groups.specs.GrownLists.{IsGrownList}
use Rattle.price_successors.specs.Enough.{AreSomeEarly}
use Rattle.price_successors.proofs.choosing.successors.Given as goal

abbrev pub invariant-loop-place : goal.invariant-loop-place
invariant-loop-place l = record {
  lists : All (IsGrownList (group_asked l.extension)) l.lists.items;
  some : AreSomeEarly (line_asked l.extension.case.now) l.place l.successors.items;
}
