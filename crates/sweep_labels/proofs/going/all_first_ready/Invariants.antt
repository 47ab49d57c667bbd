use Rattle.std.proofs.Common.{◌≡◌, length}
use Rattle.lock_model.specs.declared.limits.TheConstants.{CHAMBERS}
use Rattle.sweep_labels.specs.Steps.{AllRaised, low_first}
use Rattle.sweep_labels.proofs.going.all_first_ready.Given as goal

abbrev pub invariant-loop-at : goal.invariant-loop-at
invariant-loop-at l = record {
  room : length l.times ≡ CHAMBERS;
  all : AllRaised (low_first l.instance) l.arrivals l.served.bits l.at l.times;
}
