use Rattle.std.proofs.Common.{◌≤◌, length}
use Rattle.price_groups.specs.Asked.{line_asked}
use Rattle.price_table.specs.Lines.{IsBegun}
use Rattle.price_table.specs.Values.{IsValue, AreValues}
use Rattle.price_table.proofs.walking.walked.Given as goal

abbrev pub invariant-loop : goal.invariant-loop
invariant-loop l = record {
  values : AreValues (line_asked l.table.case.now) l.table.horizon l.values;
  place : l.at.state.place ≤ length l.table.case.now.line.now;
  minute : l.at.state.minute ≤ 14000000;
  value : IsValue (line_asked l.table.case.now) l.table.horizon l.at.state.place l.at.state.stand l.at.state.minute l.at.value;
  begun : IsBegun (line_asked l.table.case.now) l.groups.items l.at l.total;
}
