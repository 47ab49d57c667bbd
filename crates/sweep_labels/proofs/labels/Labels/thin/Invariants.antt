use Rattle.std.proofs.Common.{◌≡◌}
use Rattle.sweep_labels.specs.Putting.{AreClosedBy}
use Rattle.sweep_labels.proofs.labels.Labels.thin.Given as goal

abbrev pub invariant-loop : goal.invariant-loop
invariant-loop l = record {
  items : l.self.items.items ≡ l.initial.self.items.items;
  closed : AreClosedBy l.initial.self.items.items l.kept l.initial.self.are_open.items l.self.are_open.items;
}
