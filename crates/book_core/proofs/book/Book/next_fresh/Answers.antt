use Rattle.std.proofs.Common.{sym, ap, ◌∙◌}
use Rattle.book_rules.specs.Book.{slot_at, is_fresh}
use Rattle.book_rules.specs.NextSlot.{next_fresh}
use Rattle.book_core.specs.Seen.{seen}
use Rattle.book_core.specs.Stored.{slots_of}
use Rattle.book_core.proofs.NextLemmas.{next-value}
use Rattle.book_core.proofs.book.Book.next_fresh.Goals as goal

pub returns-clause-value : goal.returns-clause-value
returns-clause-value c =
    let a = c.self.inside in
    let root = ap (λ b. is_fresh (slot_at b 0).state) c.self.view_is ∙ sym c.is_root_fresh.ensures ∙ c.if-is_root_fresh.false in
    next-value (seen a) c.self.invariant.sound root (slots_of c.case.inside.instance c.deref.result.now)
    ((λ i. slots_of (c.case.view_is i).instance (c.deref.ensures.value i)))
    c.next_waiting.result c.next_waiting.ensures.some c.next_waiting.ensures.none
    ∙ ap next_fresh c.self.view_is
