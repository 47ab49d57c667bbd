use Rattle.std.proofs.Common.{◌≡◌, ◌≤◌}
use Rattle.price_groups.specs.Asked.{line_asked}
use Rattle.price_table.specs.Values.{IsFrame, IsThreshold}
use Rattle.price_table.proofs.sweeping.sweep.Given as goal

abbrev pub invariant-loop-place : goal.invariant-loop-place
invariant-loop-place l = record {
  frame : IsFrame (line_asked l.table.case.now) l.table.horizon l.table.successor_lists.now (record { ready = l.ready; best = l.counted.best; next = l.place });
  threshold : IsThreshold (line_asked l.table.case.now) l.ready l.route l.counted.best l.counted.threshold;
  more : l.fn.frame.next ≤ l.place;
  same : l.frame.ready ≡ l.ready;
}
