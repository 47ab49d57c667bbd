use Rattle.std.proofs.Common.{◌≡◌, ◌≤◌, ◌+◌, length, drop}
use Rattle.day_play.specs.Order.{put_each, minute_of}
use Rattle.day_play.specs.Playing.{moor_beats}
use Rattle.day_play.specs.declared.day.TheConstants.{BEATS}
use Rattle.day_play.proofs.lines.put_moors.Given as goal

abbrev pub invariant-loop-place : goal.invariant-loop-place
invariant-loop-place l = record {
  rest : put_each minute_of l.day (moor_beats l.p l.lockage (drop l.place-index l.places)) ≡ put_each minute_of l.initial.day (moor_beats l.p l.lockage l.places);
  room : length l.day + length (drop l.place-index l.places) ≤ BEATS;
}
