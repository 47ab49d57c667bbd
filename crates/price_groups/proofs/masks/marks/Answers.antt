use Rattle.std.proofs.Common.{◌≡◌, length, sym, subst, arith}
use Rattle.price_groups.specs.Masks.{AreMarks, IsNoted}
use Rattle.price_groups.proofs.MaskLemmas.{marks-first, marks-next}
use Rattle.price_groups.proofs.masks.marks.Goals as goal

pub loop-set-init : goal.loop-set-init
loop-set-init c = subst (AreMarks c.args.instance.now c.args.sets.now 0) (sym c.new-masks.ensures.items) (marks-first c.args.instance.now c.args.sets.now)

pub loop-set-preserved : goal.loop-set-preserved
loop-set-preserved c =
    let I = c.args.instance.now in
    let noted = subst (λ set. IsNoted I set c.loop-set.masks.items c.note.new.masks.items) c.as_slice.ensures.value c.in_ok-note.ensures in
    marks-next I c.args.sets.now c.loop-set.set-index c.set-item.result c.loop-set.masks.items c.note.new.masks.items c.loop-set-test.true c.set-item.is noted c.loop-set.invariant

pub returns : goal.returns
returns c =
    let all : c.loop-set.set-index ≡ length c.args.sets.now = omega (arith, c.loop-set-test.false, c.loop-set.auto.set-index-end) in
    subst (λ i. AreMarks c.args.instance.now c.args.sets.now i c.loop-set.masks.items) all c.loop-set.invariant
