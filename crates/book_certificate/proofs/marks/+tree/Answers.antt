use Rattle.std.proofs.Common.{◌+◌, ◌-◌, ◌<◌, ◌++◌, [], ◌∷◌, ◌∙◌, ap, arith}
use Rattle.book_rules.specs.Book.{slot_at}
use Rattle.book_rules.specs.Family.{child_count}
use Rattle.book_certificate.proofs.ChildLemmas.{split-lacks, child-known, child-deeper}
use Rattle.book_certificate.proofs.WritingLemmas.{more-written, split-written}
use Rattle.book_certificate.proofs.marks.+tree.Goals as goal

pub write_split-write_slot-requires : goal.write_split-write_slot-requires
write_split-write_slot-requires t c =
    let b = c.args.book.now in
    let family = c.keeps.ensures.parts.family in
    let below : c.loop-child.child < c.args.first + child_count b.case.instance (slot_at b c.args.id).node = omega (arith, c.loop-child-test.true, c.children_end-child-end.ensures) in
    let deep = child-deeper b family c.args.id c.args.first c.requires.split c.loop-child.child c.loop-child.invariant.low below in
    let lacks = split-lacks b family c.args.id c.args.first c.requires.split in (
      omega (arith, c.decreases, deep, lacks),
      child-known b family c.args.id c.args.first c.requires.split c.loop-child.child c.loop-child.invariant.low below,
    )

pub write_split-loop-child-preserved : goal.write_split-loop-child-preserved
write_split-loop-child-preserved t c =
    let b = c.args.book.now in
    let family = c.keeps.ensures.parts.family in
    let low = c.loop-child.invariant.low in
    let below : c.loop-child.child < c.args.first + child_count b.case.instance (slot_at b c.args.id).node = omega (arith, c.loop-child-test.true, c.children_end-child-end.ensures) in
    record {
      low = omega (arith, low);
      high = omega (arith, below);
      written =
          more-written b c.args.id c.args.first (c.loop-child.child - c.args.first) (c.loop-child.child + 1 - c.args.first) c.loop-child.child c.push.new.self c.loop-child.marks c.write_slot.new.marks (omega (arith, low)) (omega (arith, low))
          (child-deeper b family c.args.id c.args.first c.requires.split c.loop-child.child low below) c.loop-child.invariant.written c.in_ok-write_slot.ensures;
    }

pub write_split-returns : goal.write_split-returns
write_split-returns t c =
    let b = c.args.book.now in
    let low = c.loop-child.invariant.low in
    let high = c.loop-child.invariant.high in
    split-written b c.args.id c.args.first (c.loop-child.child - c.args.first) c.args.marks.now c.push.new.self c.loop-child.marks c.requires.split (split-lacks b c.keeps.ensures.parts.family c.args.id c.args.first c.requires.split)
    (c.in_ok-push.ensures.ok ∙ ap (λ m. c.args.marks.now ++ m ∷ []) c.mark_at.ensures)
    (omega (arith, low, high, c.loop-child-test.false, c.children_end-child-end.ensures)) c.loop-child.invariant.written
