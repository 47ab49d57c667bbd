use Rattle.std.proofs.Common.{◌≡◌, ◌+◌, ◌++◌, length, drop, get_or, ap, sym, ◌∙◌, arith}
use Rattle.lock_rules.specs.Lawful.{duration_of, stand_after}
use Rattle.chamber_times.specs.Walk.{line_places}
use Rattle.chamber_times.proofs.WalkLemmas.{line_places-within, line_lockage, line_lockage-has}
use Rattle.day_play.specs.Order.{put_each, minute_of}
use Rattle.day_play.specs.Lawful.{IsWholeLockage}
use Rattle.day_play.specs.Playing.{lockage_beats, line_beats}
use Rattle.day_play.proofs.BeatLemmas.{line-next, put-rest, room-rest, room-first}
use Rattle.day_play.proofs.lines.put_line.Goals as goal

pub bounds-as_slice-p : goal.bounds-as_slice-p
bounds-as_slice-p c =
    omega (
      arith,
      line_places-within c.args.plan.now c.args.chamber c.as_slice-p-items.result.now c.loop-p.p-index (c.as_slice-p-items.ensures.value ∙ c.line_places-places.ensures) c.loop-p-test.true,
      ap length c.as_slice-in-loop-p.ensures.value,
    )

pub put_lockage-requires-clause-whole : goal.put_lockage-requires-clause-whole
put_lockage-requires-clause-whole c =
    line_lockage-has c.args.plan.now c.args.chamber c.as_slice-p-items.result.now c.loop-p.p-index c.index-as_slice-p.result c.as_slice-in-loop-p.result.now
    (c.as_slice-p-items.ensures.value ∙ c.line_places-places.ensures) c.loop-p-test.true c.as_slice-in-loop-p.ensures.value c.index-as_slice-p.is
    (IsWholeLockage c.args.instance.now) c.requires.whole

pub put_lockage-requires-clause-room : goal.put_lockage-requires-clause-room
put_lockage-requires-clause-room c =
    let I = c.args.instance.now in
    let P = c.args.plan.now in
    let ps = c.as_slice-p-items.result.now in
    let i = c.loop-p.p-index in
    let l = c.index-as_slice-p.result in
    let same : ps ≡ line_places P c.args.chamber = c.as_slice-p-items.ensures.value ∙ c.line_places-places.ensures in
    let here = line_lockage P c.args.chamber ps i l c.as_slice-in-loop-p.result.now same c.loop-p-test.true c.as_slice-in-loop-p.ensures.value c.index-as_slice-p.is in
    let first = lockage_beats I (get_or ps i 0) l c.loop-p.stand c.loop-p.from in
    room-first c.loop-p.day _ first (line_beats I P (stand_after l.way) (l.start + duration_of I l.chamber l.ships) (drop (i + 1) ps)) (line_beats I P c.loop-p.stand c.loop-p.from (drop i ps))
    (λ j. put_each minute_of c.loop-p.day first) (line-next I P c.loop-p.stand c.loop-p.from ps i l c.loop-p-test.true here) c.loop-p.invariant.room

pub duration-requires-clause-chamber_in : goal.duration-requires-clause-chamber_in
duration-requires-clause-chamber_in c =
    (line_lockage-has c.args.plan.now c.args.chamber c.as_slice-p-items.result.now c.loop-p.p-index c.index-as_slice-p.result c.as_slice-in-loop-p.result.now
    (c.as_slice-p-items.ensures.value ∙ c.line_places-places.ensures) c.loop-p-test.true c.as_slice-in-loop-p.ensures.value c.index-as_slice-p.is
    (IsWholeLockage c.args.instance.now) c.requires.whole).chamber

pub duration-requires-clause-ships_in : goal.duration-requires-clause-ships_in
duration-requires-clause-ships_in c =
    (line_lockage-has c.args.plan.now c.args.chamber c.as_slice-p-items.result.now c.loop-p.p-index c.index-as_slice-p.result c.as_slice-in-loop-p.result.now
    (c.as_slice-p-items.ensures.value ∙ c.line_places-places.ensures) c.loop-p-test.true c.as_slice-in-loop-p.ensures.value c.index-as_slice-p.is
    (IsWholeLockage c.args.instance.now) c.requires.whole).ships

pub loop-p-preserved : goal.loop-p-preserved
loop-p-preserved c =
    let I = c.args.instance.now in
    let P = c.args.plan.now in
    let ps = c.as_slice-p-items.result.now in
    let i = c.loop-p.p-index in
    let l = c.index-as_slice-p.result in
    let same : ps ≡ line_places P c.args.chamber = c.as_slice-p-items.ensures.value ∙ c.line_places-places.ensures in
    let here = line_lockage P c.args.chamber ps i l c.as_slice-in-loop-p.result.now same c.loop-p-test.true c.as_slice-in-loop-p.ensures.value c.index-as_slice-p.is in
    let first = lockage_beats I (get_or ps i 0) l c.loop-p.stand c.loop-p.from in
    let rest = line_beats I P c.stand_after-stand.result (l.start + c.duration.result) (drop (i + 1) ps) in
    let all : line_beats I P c.loop-p.stand c.loop-p.from (drop i ps) ≡ first ++ rest =
    line-next I P c.loop-p.stand c.loop-p.from ps i l c.loop-p-test.true here
    ∙ ap (λ s. first ++ line_beats I P s (l.start + duration_of I l.chamber l.ships) (drop (i + 1) ps)) (sym c.stand_after-stand.ensures)
    ∙ ap (λ n. first ++ line_beats I P c.stand_after-stand.result (l.start + n) (drop (i + 1) ps)) (sym c.duration.ensures.value) in
    record {
      rest = put-rest c.loop-p.day c.put_lockage.new.day first rest (line_beats I P c.loop-p.stand c.loop-p.from (drop i ps)) c.put_lockage.ensures all _ c.loop-p.invariant.rest;
      room = room-rest c.loop-p.day c.put_lockage.new.day first rest (line_beats I P c.loop-p.stand c.loop-p.from (drop i ps)) c.put_lockage.ensures all c.loop-p.invariant.room;
      small = omega (arith, c.duration.ensures.small);
    }
