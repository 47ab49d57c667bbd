use Rattle.std.proofs.Common.{ap, ◌∙◌}
use Rattle.book_rules.specs.Book.{has_slot, is_held}
use Rattle.book_core.specs.Seen.{seen}
use Rattle.book_core.specs.Hands.{ids_of}
use Rattle.book_core.proofs.HeldLemmas.{some-ids}
use Rattle.book_core.proofs.HandLemmas.{some-held}
use Rattle.book_core.proofs.book.Book.has_held.Goals as goal

pub returns : goal.returns
returns c =
    let a = c.self.inside in
    c.has_some.ensures ∙ some-ids a.hands ∙ some-held (seen a) (ids_of a.hands) c.self.invariant.tables.hands_are ∙ ap (λ b. has_slot b is_held) c.self.view_is
