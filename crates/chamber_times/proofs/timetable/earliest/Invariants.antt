use Rattle.std.proofs.Common.{length, All, ◌≡◌, ◌≤◌, ◌<◌, ◌+◌, ◌*◌, ◌^◌, ◌++◌, drop}
use Rattle.lock_rules.specs.Timetable.{timetable_from, timetable_of}
use Rattle.chamber_times.proofs.timetable.earliest.Given as goal

-- the times so far and those of what is left are all times
abbrev pub invariant-loop-group : goal.invariant-loop-group
invariant-loop-group l = record {
  rest : l.times ++ timetable_from l.instance l.chamber l.stand l.from (drop l.group-index l.line) ≡ timetable_of l.instance l.chamber l.line;
  room : length l.times ≡ l.group-index;
  small : l.from ≤ 1000000 + l.group-index * 12000000;
  fit : All (λ t. (t.0 < 2 ^ 32) × (t.1 < 2 ^ 32)) l.times;
}
