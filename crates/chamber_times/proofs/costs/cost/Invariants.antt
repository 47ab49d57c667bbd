use Rattle.std.proofs.Common.{◌≡◌, ◌*◌, ◌≤◌, ◌^◌, take, sum_by}
use Rattle.lock_rules.specs.Plan.{flow_in}
use Rattle.chamber_times.proofs.costs.cost.Given as goal

abbrev pub invariant-loop-lockage : goal.invariant-loop-lockage
invariant-loop-lockage l = record {
  sum : l.sum ≡ sum_by (flow_in l.instance) (take l.lockage-index l.lockage-items);
  small : l.sum ≤ l.lockage-index * 2 ^ 36;
}
