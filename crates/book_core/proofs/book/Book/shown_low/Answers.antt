use Rattle.std.proofs.Common.{◌<◌, ◌≤◌, length, sym, ap, ◌∙◌, arith}
use Rattle.book_rules.specs.Book.{Slot, slot_at}
use Rattle.book_core.specs.Seen.{seen}
use Rattle.book_core.proofs.KeptLemmas.{length-slots, is-stored, slot-past}
use Rattle.book_core.proofs.book.Book.shown_low.Goals as goal

pub returns-then-id-len : goal.returns-then-id-len
returns-then-id-len c =
    let a = c.self.inside in
    let known : c.args.id < length a.slots.items = omega (arith, a.slots.ok.0) in
    sym (is-stored a.case.instance a.slots.items c.args.id c.index.result.now known c.index.ensures).shown ∙ ap (λ b. (slot_at b c.args.id).shown) c.self.view_is

pub returns-else-id-len : goal.returns-else-id-len
returns-else-id-len c =
    let a = c.self.inside in
    let past : length (seen a).slots ≤ c.args.id = omega (arith, a.slots.ok.0, length-slots a.case.instance a.slots.items) in
    ap (λ (s : Slot). s.shown) (sym (slot-past (seen a).slots c.args.id past)) ∙ ap (λ b. (slot_at b c.args.id).shown) c.self.view_is
