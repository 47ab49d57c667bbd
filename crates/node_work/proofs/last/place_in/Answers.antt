use Rattle.std.proofs.Common.{◌<◌, length, refl}
use Rattle.node_work.proofs.LastLemmas.{lacked_more}
use Rattle.node_work.proofs.last.place_in.Goals as goal

pub loop-place-preserved : goal.loop-place-preserved
loop-place-preserved c =
    let line = c.args.line.now in
    let here : c.loop-place.place < length line = c.loop-place-test.true in
    let group = c.index-line-place.result in
    lacked_more line line c.args.ship c.loop-place.place group c.as_slice.result.now c.is_among.result
    refl here c.as_slice.ensures.value c.loop-place.invariant c.is_among.ensures c.if-is_among.false
