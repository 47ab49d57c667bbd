use Rattle.std.proofs.Common.{◌≡◌, ◌≤◌, drop, max}
use Rattle.lock_rules.specs.Timetable.{first_free}
use Rattle.chamber_times.proofs.spans.first_free.Given as goal

-- what is left of the closures gives the same minute from here on
abbrev pub invariant-loop-closure : goal.invariant-loop-closure
invariant-loop-closure l = record {
  rest : first_free (drop l.closure-index l.closure-items) l.long l.at ≡ first_free l.closure-items l.long l.from;
  small : l.at ≤ max l.from 1000000;
}
