use Rattle.std.proofs.Common.{◌≡◌, length, sym, subst, arith, slice_index_or}
use Rattle.std.proofs.lemmas.List.{get_or_default}
use Rattle.price_groups.specs.Masks.{AreHaving}
use Rattle.price_groups.proofs.MaskLemmas.{having-first, having-next}
use Rattle.price_groups.proofs.masks.having.Goals as goal

pub loop-mask-init : goal.loop-mask-init
loop-mask-init c = subst (AreHaving c.args.own c.args.early c.args.marks.now 0) (sym c.new-masks.ensures.items) (having-first c.args.own c.args.early c.args.marks.now)

pub loop-mask-preserved : goal.loop-mask-preserved
loop-mask-preserved c =
    having-next c.args.own c.args.early c.args.marks.now c.loop-mask.mask-index (slice_index_or c.args.marks.now c.loop-mask.mask-index 0) c.loop-mask.masks.items c.put_between.new.masks.items c.loop-mask-test.true
    (get_or_default c.args.marks.now c.loop-mask.mask-index 0 (slice_index_or c.args.marks.now c.loop-mask.mask-index 0) c.loop-mask-test.true) c.in_ok-put_between.ensures c.loop-mask.invariant

pub returns : goal.returns
returns c =
    let all : c.loop-mask.mask-index ≡ length c.args.marks.now = omega (arith, c.loop-mask-test.false, c.loop-mask.auto.mask-index-end) in
    subst (λ i. AreHaving c.args.own c.args.early c.args.marks.now i c.loop-mask.masks.items) all c.loop-mask.invariant
