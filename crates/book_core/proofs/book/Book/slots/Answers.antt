use Rattle.std.proofs.Common.{length, sym, ap, ◌∙◌, arith}
use Rattle.book_rules.specs.Book.{Book}
use Rattle.book_core.specs.Seen.{seen}
use Rattle.book_core.proofs.KeptLemmas.{length-slots, few-slots}
use Rattle.book_core.proofs.book.Book.slots.Goals as goal

pub overflow_cast-result : goal.overflow_cast-result
overflow_cast-result c =
    let a = c.self.inside in
    omega (arith, few-slots (seen a) c.self.invariant.sound, length-slots a.case.instance a.slots.items, a.slots.ok.0)

pub returns-clause-value : goal.returns-clause-value
returns-clause-value c =
    let a = c.self.inside in
    c.len.ensures ∙ a.slots.ok.0 ∙ sym (length-slots a.case.instance a.slots.items) ∙ ap (λ (b : Book). length b.slots) c.self.view_is

pub returns-clause-small : goal.returns-clause-small
returns-clause-small c =
    let a = c.self.inside in
    omega (arith, few-slots (seen a) c.self.invariant.sound, length-slots a.case.instance a.slots.items, a.slots.ok.0)
