use Rattle.std.proofs.Common.{◌≡◌, ◌≤◌, ◌+◌, All, map, take}
use Rattle.lock_rules.specs.Bound.{node_flow}
use Rattle.master_branch.specs.Steps.{lines_after}
use Rattle.lock_rules.specs.Node.{line_at}
use Rattle.flow_bounds.specs.Along.{IsAlong}
use Rattle.flow_bounds.specs.Most.{most_bound}
use Rattle.flow_bounds.proofs.probing.bounds_by.Given as goal

abbrev pub invariant-loop-step : goal.invariant-loop-step
invariant-loop-step l = record {
  along : IsAlong l.instance l.chamber (line_at l.node.lines l.chamber) l.along;
  value : l.bounds ≡ map (λ step. node_flow l.instance (lines_after l.instance l.ship l.node.lines step) + l.rest) (take l.step-index l.step-items);
  small : All (λ b. b ≤ most_bound) l.bounds;
}
