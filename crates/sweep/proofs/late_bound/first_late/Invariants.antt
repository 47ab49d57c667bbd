use Rattle.std.proofs.Common.{◌≡◌, length}
use Rattle.lock_model.specs.declared.limits.TheConstants.{CHAMBERS}
use Rattle.sweep_labels.specs.Steps.{AllRaised}
use Rattle.sweep.specs.Late.{times_from}
use Rattle.sweep.proofs.late_bound.first_late.Given as goal

abbrev pub invariant-loop-chamber : goal.invariant-loop-chamber
invariant-loop-chamber l = record {
  room : length l.ready ≡ CHAMBERS;
  all : AllRaised (times_from l.first) l.case.arrivals.now l.served.bits l.chamber l.ready;
}
