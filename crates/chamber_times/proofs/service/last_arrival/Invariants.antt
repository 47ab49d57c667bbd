use Rattle.std.proofs.Common.{◌≡◌, ◌≤◌, drop, max}
use Rattle.lock_rules.specs.Timetable.{last_arrival}
use Rattle.chamber_times.proofs.service.last_arrival.Given as goal

abbrev pub invariant-loop-ship : goal.invariant-loop-ship
invariant-loop-ship l = record {
  rest : last_arrival l.instance l.latest (drop l.ship-index l.ship-items) ≡ last_arrival l.fn.instance l.fn.low l.ship-items;
  small : l.latest ≤ max l.fn.low 1000000;
}
