use Rattle.std.proofs.Common.{All}
use Rattle.price_groups.specs.Asked.{line_asked}
use Rattle.price_table.specs.Values.{AreValues, IsFrame}
use Rattle.price_table.proofs.least.worked.Given as goal

abbrev pub invariant-loop : goal.invariant-loop
invariant-loop l = record {
  values : AreValues (line_asked l.table.case.now) l.table.horizon l.values;
  frames : All (IsFrame (line_asked l.table.case.now) l.table.horizon l.table.successor_lists.now) l.frames.items;
}
