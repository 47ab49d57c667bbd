use Rattle.std.proofs.Common.{◌≡◌, ◌+◌, ◌*◌, ◌≤◌, take, sum_by}
use Rattle.lock_model.specs.Fleet.{ship_at, chamber_at}
use Rattle.chamber_times.proofs.service.duration.Given as goal

abbrev pub invariant-loop-ship : goal.invariant-loop-ship
invariant-loop-ship l = record {
  sum : l.sum ≡ (chamber_at l.instance l.chamber).pass + sum_by (λ s. (ship_at l.instance s).handling) (take l.ship-index l.ship-items);
  small : l.sum ≤ 1000000 + l.ship-index * 1000000;
}
