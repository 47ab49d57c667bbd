use Rattle.std.proofs.Common.{ap, ◌∙◌}
use Rattle.book_rules.specs.Book.{has_slot, is_fresh, is_back, is_held}
use Rattle.book_core.proofs.SummingLemmas.{any-stored}
use Rattle.std.specs.List.{list_any}
use Rattle.std.specs.Prelude.{◌||◌}
use Rattle.book_core.specs.declared.stored_slot.StoredSlot.{StoredSlot}
use Rattle.book_core.proofs.book.Book.has_open.Goals as goal

pub returns : goal.returns
returns c =
    let a = c.self.inside in
    c.has_open.ensures
    ∙ ap (list_any (λ (s : StoredSlot). is_fresh s.state || is_back s.state || is_held s.state)) c.deref.ensures.value
    ∙ any-stored a.case.instance (λ state. is_fresh state || is_back state || is_held state) a.slots.items
    ∙ ap (λ b. has_slot b (λ state. is_fresh state || is_back state || is_held state)) c.self.view_is
