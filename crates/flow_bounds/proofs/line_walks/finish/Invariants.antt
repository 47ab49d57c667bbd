use Rattle.std.proofs.Common.{◌≡◌, ◌≤◌, ◌*◌, ◌+◌, drop}
use Rattle.flow_bounds.specs.Most.{group_flow}
use Rattle.flow_bounds.specs.Walk.{serve_all}
use Rattle.flow_bounds.proofs.line_walks.finish.Given as goal

abbrev pub invariant-loop-i : goal.invariant-loop-i
invariant-loop-i l = record {
  rest : (serve_all l.instance l.chamber l.walk (drop l.i l.line)).flow ≡ (serve_all l.instance l.chamber l.initial.walk (drop l.initial.i l.line)).flow;
  done : l.walk.done ≤ 1000000 + (l.i + 1) * 12000000;
  flow : l.walk.flow ≤ (l.i + 1) * group_flow;
}
