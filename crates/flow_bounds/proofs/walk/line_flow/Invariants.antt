use Rattle.std.proofs.Common.{◌≡◌, ◌≤◌, ◌*◌, ◌+◌, drop}
use Rattle.flow_bounds.specs.Most.{group_flow}
use Rattle.flow_bounds.specs.Walk.{serve_all, walk_start}
use Rattle.flow_bounds.proofs.walk.line_flow.Given as goal

-- the groups that are left take the walk to where all groups take it
abbrev pub invariant-loop-group : goal.invariant-loop-group
invariant-loop-group l = record {
  rest : serve_all l.instance l.chamber l.walk (drop l.group-index l.line) ≡ serve_all l.instance l.chamber (walk_start l.instance l.chamber) l.line;
  done : l.walk.done ≤ 1000000 + l.group-index * 12000000;
  flow : l.walk.flow ≤ l.group-index * group_flow;
}
