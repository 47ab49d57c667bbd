use Rattle.std.proofs.Common.{◌+◌, length, ap, ◌∙◌, arith}
use Rattle.std.proofs.lemmas.List.{length-map}
use Rattle.day_play.specs.Order.{put_by, put_each, minute_of}
use Rattle.day_play.specs.Playing.{moor_beat, moor_beats, moor_order, turn_beats, go_beat, done_beat}
use Rattle.day_play.specs.declared.beat.Act.TheVariants.{Done}
use Rattle.day_play.proofs.BeatLemmas.{lockage-room_moors, lockage-room_go, lockage-put}
use Rattle.day_play.proofs.OrderLemmas.{length-put_by}
use Rattle.day_play.proofs.lines.put_lockage.Goals as goal

pub put_moors-requires-clause-room : goal.put_moors-requires-clause-room
put_moors-requires-clause-room c =
    let I = c.args.instance.now in
    let l = c.args.lockage.now in
    let p = c.args.p in
    let order = c.as_slice.ensures.value ∙ c.moor_order-order.ensures.order in
    omega (
      arith,
      lockage-room_moors c.args.day.now c.put_turn.new.day (put_each minute_of c.put_turn.new.day (moor_beats p l (moor_order I l))) (put_each minute_of c.put_turn.new.day (moor_beats p l (moor_order I l)))
          (turn_beats I p l c.args.from c.args.stand l.way) (moor_beats p l (moor_order I l)) (go_beat p l) (done_beat I p l) c.put_turn.ensures (λ i. put_each minute_of c.put_turn.new.day (moor_beats p l (moor_order I l))) c.requires.room,
      length-map (moor_order I l) (moor_beat p l),
      ap length order,
    )

pub put-requires : goal.put-requires
put-requires c =
    let I = c.args.instance.now in
    let l = c.args.lockage.now in
    let p = c.args.p in
    let moors = c.put_moors.ensures ∙ ap (λ ks. put_each minute_of c.put_turn.new.day (moor_beats p l ks)) (c.as_slice.ensures.value ∙ c.moor_order-order.ensures.order) in
    omega (
      arith,
      lockage-room_go c.args.day.now c.put_turn.new.day c.put_moors.new.day c.put_moors.new.day (turn_beats I p l c.args.from c.args.stand l.way) (moor_beats p l (moor_order I l)) (go_beat p l) (done_beat I p l) c.put_turn.ensures moors c.requires.room,
    )

pub put-requires-2 : goal.put-requires-2
put-requires-2 c =
    let I = c.args.instance.now in
    let l = c.args.lockage.now in
    let p = c.args.p in
    let moors = c.put_moors.ensures ∙ ap (λ ks. put_each minute_of c.put_turn.new.day (moor_beats p l ks)) (c.as_slice.ensures.value ∙ c.moor_order-order.ensures.order) in
    omega (
      arith,
      lockage-room_go c.args.day.now c.put_turn.new.day c.put_moors.new.day c.put_moors.new.day (turn_beats I p l c.args.from c.args.stand l.way) (moor_beats p l (moor_order I l)) (go_beat p l) (done_beat I p l) c.put_turn.ensures moors c.requires.room,
      ap length c.put.ensures,
      length-put_by minute_of (go_beat p l) c.put_moors.new.day,
    )

pub returns : goal.returns
returns c =
    let I = c.args.instance.now in
    let l = c.args.lockage.now in
    let p = c.args.p in
    let moors = c.put_moors.ensures ∙ ap (λ ks. put_each minute_of c.put_turn.new.day (moor_beats p l ks)) (c.as_slice.ensures.value ∙ c.moor_order-order.ensures.order) in
    lockage-put c.args.day.now c.put_turn.new.day c.put_moors.new.day c.put-2.new.self (turn_beats I p l c.args.from c.args.stand l.way) (moor_beats p l (moor_order I l)) (go_beat p l) (done_beat I p l) c.put_turn.ensures moors
    (c.put-2.ensures ∙ ap (put_by minute_of (record { minute = l.start + c.duration.result; chamber = l.chamber; lockage = p; act = Done })) c.put.ensures
    ∙ ap (λ n. put_by minute_of (record { minute = l.start + n; chamber = l.chamber; lockage = p; act = Done }) (put_by minute_of (go_beat p l) c.put_moors.new.day)) c.duration.ensures.value)
