use Rattle.std.proofs.Common.{sym, ap, ◌∙◌, arith}
use Rattle.std.specs.List.{position}
use Rattle.book_rules.specs.Book.{first_slot, is_parked}
use Rattle.book_core.specs.declared.stored_slot.StoredSlot.{StoredSlot}
use Rattle.book_core.specs.Seen.{seen}
use Rattle.book_core.proofs.KeptLemmas.{few-slots}
use Rattle.book_core.proofs.SummingLemmas.{position-stored, parked-at}
use Rattle.book_core.proofs.book.Book.first_parked.Goals as goal

pub overflow_cast-result : goal.overflow_cast-result
overflow_cast-result c =
    let a = c.self.inside in
    let value = sym c.in-Some.is ∙ c.first_parked.ensures ∙ ap (position (λ (s : StoredSlot). is_parked s.state)) c.deref.ensures.value ∙ position-stored a.case.instance is_parked a.slots.items in
    let known = parked-at (seen a) c.in-Some.id (sym value) in
    omega (arith, known, few-slots (seen a) c.self.invariant.sound)

pub returns-in-Some : goal.returns-in-Some
returns-in-Some c =
    let a = c.self.inside in
    sym c.in-Some.is ∙ c.first_parked.ensures ∙ ap (position (λ (s : StoredSlot). is_parked s.state)) c.deref.ensures.value ∙ position-stored a.case.instance is_parked a.slots.items ∙ ap (λ b. first_slot b is_parked) c.self.view_is

pub returns-in-None : goal.returns-in-None
returns-in-None c =
    let a = c.self.inside in
    sym c.in-None.is ∙ c.first_parked.ensures ∙ ap (position (λ (s : StoredSlot). is_parked s.state)) c.deref.ensures.value ∙ position-stored a.case.instance is_parked a.slots.items ∙ ap (λ b. first_slot b is_parked) c.self.view_is
