use Rattle.std.proofs.Common.{◌≡◌, Some, arith, rules}
use Rattle.book_core.proofs.KeptLemmas.{few-slots}
use Rattle.book_certificate.proofs.ChildLemmas.{told-before, told-end}
use Rattle.book_certificate.proofs.marks.children_end.Goals as goal

pub overflow_add-end : goal.overflow_add-end
overflow_add-end c =
    let b = c.args.book.now in
    let same : c.parent.result ≡ Some c.args.id = search rules in
    let before = told-before b c.keeps.ensures.parts.family c.args.id c.args.first c.requires c.loop-end.end c.parent.result c.loop-end.invariant.low (c.parent.ensures.some, c.parent.ensures.none) same in
    omega (arith, before.0, few-slots b c.keeps.ensures)

pub loop-end-preserved : goal.loop-end-preserved
loop-end-preserved c =
    let b = c.args.book.now in
    let same : c.parent.result ≡ Some c.args.id = search rules in
    let before = told-before b c.keeps.ensures.parts.family c.args.id c.args.first c.requires c.loop-end.end c.parent.result c.loop-end.invariant.low (c.parent.ensures.some, c.parent.ensures.none) same in
    record { low = omega (arith, c.loop-end.invariant.low); high = omega (arith, before.1) }

pub returns : goal.returns
returns c =
    let other : c.parent.result ≡ Some c.args.id → ⊥ = search rules in
    told-end c.args.book.now c.keeps.ensures.parts.family c.args.id c.args.first c.requires c.loop-end.end c.parent.result c.loop-end.invariant.low c.loop-end.invariant.high (c.parent.ensures.some, c.parent.ensures.none) other
