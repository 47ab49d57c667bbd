use Rattle.std.proofs.Common.{◌<◌, length, sym, ap, ◌∙◌, arith}
use Rattle.book_rules.specs.Book.{Book, slot_at}
use Rattle.book_core.proofs.KeptLemmas.{length-slots, is-stored}
use Rattle.book_core.proofs.book.Book.bound.Goals as goal

pub returns-then-id-len-clause-some : goal.returns-then-id-len-clause-some
returns-then-id-len-clause-some c =
    let a = c.self.inside in
    let known : c.args.id < length a.slots.items = omega (arith, a.slots.ok.0) in
    let same = ap (λ (b : Book). length b.slots) c.self.view_is in (
      omega (arith, known, same, length-slots a.case.instance a.slots.items),
      sym (ap (λ b. (slot_at b c.args.id).bound) c.self.view_is) ∙ (is-stored a.case.instance a.slots.items c.args.id c.index.result.now known c.index.ensures).bound,
    )

pub returns-else-id-len-clause-none : goal.returns-else-id-len-clause-none
returns-else-id-len-clause-none c =
    let a = c.self.inside in
    let same = ap (λ (b : Book). length b.slots) c.self.view_is in
    omega (arith, same, a.slots.ok.0, length-slots a.case.instance a.slots.items)
