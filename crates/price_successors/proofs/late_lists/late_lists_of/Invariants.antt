use Rattle.std.proofs.Common.{All}
use Rattle.price_groups.specs.Asked.{line_asked}
use Rattle.price_successors.specs.LateLists.{IsLateList}
use Rattle.price_successors.proofs.late_lists.late_lists_of.Given as goal

abbrev pub invariant-loop-step : goal.invariant-loop-step
invariant-loop-step l = All (IsLateList (line_asked l.case) l.successors) l.late_lists.items
