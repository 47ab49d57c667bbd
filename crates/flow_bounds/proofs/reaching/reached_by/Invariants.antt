use Rattle.std.proofs.Common.{◌≡◌, map, take, nat_le}
use Rattle.lock_rules.specs.Bound.{node_flow}
use Rattle.master_branch.specs.Steps.{lines_after}
use Rattle.flow_bounds.proofs.reaching.reached_by.Given as goal

abbrev pub invariant-loop-step : goal.invariant-loop-step
invariant-loop-step l = l.reached ≡ map (λ step. nat_le l.need (node_flow l.instance (lines_after l.instance l.ship l.node.lines step))) (take l.step-index l.step-items)
