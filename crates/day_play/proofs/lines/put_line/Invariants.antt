use Rattle.std.proofs.Common.{◌≡◌, ◌≤◌, ◌+◌, ◌^◌, length, drop}
use Rattle.day_play.specs.Order.{put_each, minute_of}
use Rattle.day_play.specs.Playing.{line_beats, chamber_beats}
use Rattle.day_play.specs.declared.day.TheConstants.{BEATS}
use Rattle.day_play.proofs.lines.put_line.Given as goal

abbrev pub invariant-loop-p : goal.invariant-loop-p
invariant-loop-p l = record {
  rest : put_each minute_of l.day (line_beats l.instance l.plan l.stand l.from (drop l.p-index l.p-items)) ≡ put_each minute_of l.initial.day (chamber_beats l.instance l.plan l.chamber);
  room : length l.day + length (line_beats l.instance l.plan l.stand l.from (drop l.p-index l.p-items)) ≤ BEATS;
  small : l.from ≤ 2 ^ 33;
}
