use Rattle.std.proofs.Common.{ℕ, ◌<◌, pos, ◌+ℤ◌, length, slice_index_or}
use Rattle.price_successors.specs.declared.successor.Successor.{Successor}
use Rattle.price_groups.specs.Asked.{line_asked}
use Rattle.price_successors.specs.Counted.{IsCounted}
use Rattle.price_table.specs.Values.{AreValues}
use Rattle.price_table.proofs.walking.next_successor.Given as goal

abbrev pub invariant-loop-successor : goal.invariant-loop-successor
invariant-loop-successor l = record {
  values : AreValues (line_asked l.table.case.now) l.table.horizon l.values;
  counted : (j : ℕ) (d : Successor) → j < l.successor-index → j < length l.successor-items → IsCounted (line_asked l.table.case.now) l.from.state.stand l.from.state.minute l.from.state.place (l.from.value +ℤ pos 1) (slice_index_or l.successor-items j d);
}
