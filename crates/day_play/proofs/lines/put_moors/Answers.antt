use Rattle.std.proofs.Common.{◌≡◌, ◌+◌, [], ◌∷◌, drop, get_or, slice_index_or, ap, ◌∙◌}
use Rattle.day_play.specs.Order.{put_by, minute_of}
use Rattle.day_play.specs.Playing.{moor_beat, moor_beats}
use Rattle.day_play.specs.declared.beat.Act.TheVariants.{Moor}
use Rattle.day_play.proofs.BeatLemmas.{drop_next, put-rest}
use Rattle.day_play.proofs.OrderLemmas.{length-put_by}
use Rattle.day_play.proofs.lines.put_moors.Goals as goal
use Rattle.std.proofs.Common.{arith, length}

pub loop-place-preserved : goal.loop-place-preserved
loop-place-preserved c =
    let ks = c.args.places.now in
    let i = c.loop-place.place-index in
    let k = get_or ks i 0 in
    let l = c.args.lockage.now in
    let put : c.put.new.self ≡ put_by minute_of (moor_beat c.args.p l k) c.loop-place.day =
    c.put.ensures ∙ ap (λ ships. put_by minute_of (record { minute = l.start; chamber = l.chamber; lockage = c.args.p; act = Moor (slice_index_or ships k 0) }) c.loop-place.day) c.as_slice.ensures.value in
    record {
      rest =
          put-rest c.loop-place.day c.put.new.self (moor_beat c.args.p l k ∷ []) (moor_beats c.args.p l (drop (i + 1) ks)) (moor_beats c.args.p l (drop i ks)) put
          (ap (moor_beats c.args.p l) (drop_next ks i c.loop-place-test.true)) _ c.loop-place.invariant.rest;
      room = omega (arith, c.loop-place.invariant.room, ap length put, length-put_by minute_of (moor_beat c.args.p l k) c.loop-place.day, ap length (drop_next ks i c.loop-place-test.true));
    }
