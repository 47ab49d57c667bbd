use Rattle.std.proofs.Common.{◌≡◌, ◌≤◌, ◌*◌, ◌+◌, drop}
use Rattle.flow_bounds.specs.Most.{group_flow}
use Rattle.flow_bounds.specs.Walk.{serve_all, walk_at}
use Rattle.flow_bounds.specs.Entering.{IsBehind}
use Rattle.flow_bounds.proofs.line_walks.flow_below.Given as goal

abbrev pub invariant-loop-i : goal.invariant-loop-i
invariant-loop-i l = record {
  rest : (serve_all l.instance l.chamber l.walk (drop l.i l.line)).flow ≡ (serve_all l.instance l.chamber l.initial.walk (drop l.initial.i l.line)).flow;
  behind : IsBehind l.instance l.chamber l.walk (walk_at l.along.walks l.i);
  done : l.walk.done ≤ 1000000 + (l.i + 1) * 12000000;
  flow : l.walk.flow ≤ (l.i + 1) * group_flow;
}
