use Rattle.std.proofs.Common.{◌≡◌, ◌≤◌, ◌*◌, sum_by}
use Rattle.lock_model.specs.declared.limits.TheConstants.{SHIPS}
use Rattle.lock_rules.specs.Arrival.{numbers_from}
use Rattle.lock_rules.specs.Bound.{line_flow}
use Rattle.lock_rules.specs.Node.{line_at}
use Rattle.flow_bounds.specs.Most.{group_flow}
use Rattle.flow_bounds.proofs.node_bound.node_flow.Given as goal

abbrev pub invariant-loop-chamber : goal.invariant-loop-chamber
invariant-loop-chamber l = (l.sum ≡ sum_by (λ c. line_flow l.instance c (line_at l.node.lines c)) (numbers_from 0 l.chamber)) × (l.sum ≤ SHIPS * group_flow * l.chamber)
