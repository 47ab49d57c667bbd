use Rattle.std.proofs.Common.{◌≡◌, ◌+◌, ◌-◌, [], length, ap, ◌∙◌, arith}
use Rattle.lock_rules.specs.Arrival.{numbers_from}
use Rattle.day_play.specs.Order.{put_each, minute_of}
use Rattle.day_play.specs.Playing.{chamber_beats, beats_of}
use Rattle.day_play.proofs.BeatLemmas.{beats-few, chambers-next, put-rest, room-rest, room-first}
use Rattle.day_play.proofs.lines.day_of.Goals as goal

pub loop-chamber-init : goal.loop-chamber-init
loop-chamber-init c =
    let I = c.args.instance.now in
    let P = c.args.plan.now in
    let n : length c.as_slice.result.now - 0 ≡ length I.chambers = omega (arith, ap length c.as_slice.ensures.value) in
    record {
      rest =
          ap (λ d. put_each minute_of d (beats_of I P (numbers_from 0 (length c.as_slice.result.now - 0)))) c.new-day.ensures
          ∙ ap (λ n. put_each minute_of [] (beats_of I P (numbers_from 0 n))) n;
      room = omega (arith, ap length c.new-day.ensures, ap (λ n. length (beats_of I P (numbers_from 0 n))) n, beats-few I P (record { once = c.requires.once; lockage = c.requires.lockage; timely = c.requires.timely }));
    }

pub put_line-requires-clause-room : goal.put_line-requires-clause-room
put_line-requires-clause-room c =
    let I = c.args.instance.now in
    let P = c.args.plan.now in
    let n = length c.as_slice.result.now in
    let i = c.loop-chamber.chamber in
    room-first c.loop-chamber.day _ (chamber_beats I P i) (beats_of I P (numbers_from (i + 1) (n - (i + 1)))) (beats_of I P (numbers_from i (n - i)))
    (λ j. put_each minute_of c.loop-chamber.day (chamber_beats I P i)) (chambers-next I P i n c.loop-chamber-test.true) c.loop-chamber.invariant.room

pub loop-chamber-preserved : goal.loop-chamber-preserved
loop-chamber-preserved c =
    let I = c.args.instance.now in
    let P = c.args.plan.now in
    let n = length c.as_slice.result.now in
    let i = c.loop-chamber.chamber in
    record {
      rest =
          put-rest c.loop-chamber.day c.put_line.new.day (chamber_beats I P i) (beats_of I P (numbers_from (i + 1) (n - (i + 1)))) (beats_of I P (numbers_from i (n - i)))
          c.put_line.ensures (chambers-next I P i n c.loop-chamber-test.true) _ c.loop-chamber.invariant.rest;
      room =
          room-rest c.loop-chamber.day c.put_line.new.day (chamber_beats I P i) (beats_of I P (numbers_from (i + 1) (n - (i + 1)))) (beats_of I P (numbers_from i (n - i)))
          c.put_line.ensures (chambers-next I P i n c.loop-chamber-test.true) c.loop-chamber.invariant.room;
    }
