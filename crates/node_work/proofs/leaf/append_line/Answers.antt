use Rattle.std.proofs.Common.{◌≡◌, ◌++◌, ◌∷◌, ◌∙◌, [], length, ap, arith, slice_index_or, take, refl}
use Rattle.lock_rules.specs.Leaf.{lockages_on}
use Rattle.node_work.specs.Moorings.{spots_by}
use Rattle.node_work.proofs.LeafLemmas.{line_more, line_whole}
use Rattle.std.proofs.lemmas.List.{length-append}
use Rattle.node_work.proofs.leaf.append_line.Goals as goal

pub loop-i-preserved : goal.loop-i-preserved
loop-i-preserved c =
    let I = c.args.instance.now in
    let ms = c.args.moorings.now in
    let at = c.args.chamber in
    let i = c.loop-i.i in
    let times = c.as_slice-times.ensures.value ∙ c.earliest-times.ensures.table in
    let count = ap length c.push.ensures in (
      line_more I at (spots_by ms at) c.args.line.now c.as_slice-times.result.now c.args.lockages.now c.loop-i.lockages c.push.new.self i c.index-line-i.result c.copy.result (slice_index_or c.as_slice-times.result.now i (0, 0)).0 c.spots.result (0, 0)
          times (omega (arith, c.loop-i-test.true)) c.loop-i.invariant.0
          (c.index-line-i.is) c.copy.ensures c.spots.ensures refl c.push.ensures,
      omega (arith, count, length-append c.loop-i.lockages (record { chamber = c.args.chamber; way = c.index-line-i.result.way; ships = c.copy.result; start = (slice_index_or c.as_slice-times.result.now i (0, 0)).0; spots = c.spots.result } ∷ []), c.loop-i.invariant.1),
    )

pub returns : goal.returns
returns c =
    let I = c.args.instance.now in
    let spots = spots_by c.args.moorings.now c.args.chamber in
    let L = lockages_on I c.args.chamber spots c.args.line.now in
    let all : c.loop-i.i ≡ length c.args.line.now = omega (arith, c.loop-i-test.false, c.loop-i.auto.i-end) in
    record { value = c.loop-i.invariant.0 ∙ ap (λ n. c.args.lockages.now ++ take n L) all ∙ ap (λ ls. c.args.lockages.now ++ ls) (line_whole I c.args.chamber spots c.args.line.now) }
