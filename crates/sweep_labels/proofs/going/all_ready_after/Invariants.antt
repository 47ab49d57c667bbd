use Rattle.std.proofs.Common.{◌≡◌, length}
use Rattle.lock_model.specs.declared.limits.TheConstants.{CHAMBERS}
use Rattle.sweep_labels.specs.Steps.{AllRaised, low_by}
use Rattle.sweep_labels.proofs.going.all_ready_after.Given as goal

abbrev pub invariant-loop-at : goal.invariant-loop-at
invariant-loop-at l = record {
  room : length l.times ≡ CHAMBERS;
  all : AllRaised (low_by l.instance l.label l.step) l.arrivals l.served.bits l.at l.times;
}
