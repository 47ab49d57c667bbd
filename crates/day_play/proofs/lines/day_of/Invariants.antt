use Rattle.std.proofs.Common.{◌≡◌, ◌≤◌, ◌+◌, ◌-◌, length}
use Rattle.lock_rules.specs.Arrival.{numbers_from}
use Rattle.day_play.specs.Order.{put_each, minute_of}
use Rattle.day_play.specs.Playing.{beats_of, day_of}
use Rattle.day_play.specs.declared.day.TheConstants.{BEATS}
use Rattle.day_play.proofs.lines.day_of.Given as goal

abbrev pub invariant-loop-chamber : goal.invariant-loop-chamber
invariant-loop-chamber l = record {
  rest : put_each minute_of l.day (beats_of l.instance l.plan (numbers_from l.chamber (l.count - l.chamber))) ≡ day_of l.instance l.plan;
  room : length l.day + length (beats_of l.instance l.plan (numbers_from l.chamber (l.count - l.chamber))) ≤ BEATS;
}
