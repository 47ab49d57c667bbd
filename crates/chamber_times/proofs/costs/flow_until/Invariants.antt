use Rattle.std.proofs.Common.{◌≡◌, ◌-◌, ◌*◌, ◌≤◌, take, sum_by}
use Rattle.lock_model.specs.Fleet.{ship_at}
use Rattle.chamber_times.proofs.costs.flow_until.Given as goal

abbrev pub invariant-loop-ship : goal.invariant-loop-ship
invariant-loop-ship l = record {
  sum : l.sum ≡ sum_by (λ s. l.end - (ship_at l.instance s).arrival) (take l.ship-index l.ship-items);
  small : l.sum ≤ l.ship-index * l.end;
}
