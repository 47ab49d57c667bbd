use Rattle.std.proofs.Common.{◌≡◌, ◌≤◌, ◌*◌, ◌+◌, length, take}
use Rattle.lock_model.specs.declared.limits.TheConstants.{SHIPS, SHIPS_AND_ROOT}
use Rattle.flow_bounds.specs.Most.{group_flow}
use Rattle.flow_bounds.specs.Walk.{serve_all, walk_start}
use Rattle.flow_bounds.specs.Along.{IsAlong}
use Rattle.flow_bounds.proofs.line_walks.walk_along.Given as goal

abbrev pub invariant-loop-i : goal.invariant-loop-i
invariant-loop-i l = record {
  walk : l.walk ≡ serve_all l.instance l.chamber (walk_start l.instance l.chamber) (take l.i l.line);
  along : IsAlong l.instance l.chamber (take l.i l.line) l.along;
  walks : length l.along.walks ≡ SHIPS_AND_ROOT;
  loads : length l.along.loads ≡ SHIPS;
  done : l.walk.done ≤ 1000000 + l.i * 12000000;
  flow : l.walk.flow ≤ l.i * group_flow;
}
