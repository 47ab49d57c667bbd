use Rattle.std.proofs.Common.{◌≡◌, ◌<◌, length, arith, ap, slice_index_or, refl, List, ℕ}
use Rattle.lock_rules.specs.Node.{line_at}
use Rattle.node_work.proofs.LineLemmas.{moored_more}
use Rattle.node_work.proofs.RecallLemmas.{fits_at}
use Rattle.node_work.proofs.whole.moor_line.Goals as goal

pub loop-place-preserved : goal.loop-place-preserved
loop-place-preserved g c =
    let I = c.args.search.now.instance.now in
    let chamber = c.args.line.chamber in
    let line = line_at c.args.line.node.now.lines chamber in
    let same : c.line-groups.result.now ≡ line = c.line-groups.ensures.value in
    let here : c.loop-place.place < length line = omega (arith, ap length same, c.loop-place-test.true) in
    let group = c.index-groups-place.result in
    let ships : List ℕ = (slice_index_or c.line-groups.result.now c.loop-place.place group).ships in
    moored_more I chamber line c.line-groups.result.now c.loop-place.place c.args.moorings.now c.loop-place.moorings c.push.new.self group ships c.copy.result c.in-Fits.spots
    same here refl c.copy.ensures
    (fits_at I chamber ships c.args.search.now.turns c.in_ok-spots.field-0 c.in-Fits.spots c.in-Fits.is c.in_ok-spots.ensures)
    c.loop-place.invariant c.push.ensures
