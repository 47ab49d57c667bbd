use Rattle.std.proofs.Common.{◌≡◌, ◌<◌, ◌≤◌, ◌*◌, ℕ, sum_by}
use Rattle.lock_model.specs.declared.limits.TheConstants.{SHIPS}
use Rattle.lock_rules.specs.Arrival.{numbers_from}
use Rattle.lock_rules.specs.Bound.{line_flow}
use Rattle.lock_rules.specs.Node.{line_at}
use Rattle.flow_bounds.specs.Along.{IsAlong, along_at}
use Rattle.flow_bounds.specs.Most.{group_flow}
use Rattle.flow_bounds.proofs.node_walks.walk_all.Given as goal

abbrev pub invariant-loop-chamber : goal.invariant-loop-chamber
invariant-loop-chamber l = record {
  along : (c : ℕ) → c < l.chamber → IsAlong l.instance c (line_at l.node.lines c) (along_at l.walks c);
  total : l.total ≡ sum_by (λ c. line_flow l.instance c (line_at l.node.lines c)) (numbers_from 0 l.chamber);
  small : l.total ≤ SHIPS * group_flow * l.chamber;
}
