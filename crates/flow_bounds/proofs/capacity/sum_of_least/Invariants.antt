use Rattle.std.proofs.Common.{◌≡◌, ◌≤◌, ◌+◌, ◌-◌, ◌*◌, All}
use Rattle.lock_model.specs.declared.limits.TheConstants.{SHIPS}
use Rattle.lock_rules.specs.Throughput.{sum_of_least}
use Rattle.flow_bounds.specs.Places.{all_minutes, IsEnough}
use Rattle.flow_bounds.proofs.capacity.sum_of_least.Given as goal

-- the sum so far and that of the least minutes still to take are the sum of all
abbrev pub invariant-loop : goal.invariant-loop
invariant-loop l = record {
  rest : l.sum + sum_of_least (l.count - l.counter) (all_minutes l.all) ≡ sum_of_least l.count (all_minutes l.initial.all);
  enough : All (IsEnough (l.count - l.counter)) l.all;
  small : l.sum ≤ (SHIPS + 1) * 1000000 * l.counter;
}
