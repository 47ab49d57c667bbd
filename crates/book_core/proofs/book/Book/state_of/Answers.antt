use Rattle.std.proofs.Common.{◌<◌, ◌≤◌, length, sym, ap, ◌∙◌, arith}
use Rattle.book_rules.specs.Book.{Slot, slot_at}
use Rattle.book_core.specs.Seen.{seen}
use Rattle.book_core.proofs.KeptLemmas.{length-slots, is-stored, slot-past}
use Rattle.book_core.proofs.book.Book.state_of.Goals as goal

pub returns-then-id-len-clause-state : goal.returns-then-id-len-clause-state
returns-then-id-len-clause-state c =
    let a = c.self.inside in
    let known : c.args.id < length a.slots.items = omega (arith, a.slots.ok.0) in
    sym (is-stored a.case.instance a.slots.items c.args.id c.index.result.now known c.index.ensures).state ∙ ap (λ b. (slot_at b c.args.id).state) c.self.view_is

pub returns-else-id-len-clause-state : goal.returns-else-id-len-clause-state
returns-else-id-len-clause-state c =
    let a = c.self.inside in
    let past : length (seen a).slots ≤ c.args.id = omega (arith, a.slots.ok.0, length-slots a.case.instance a.slots.items) in
    ap (λ (s : Slot). s.state) (sym (slot-past (seen a).slots c.args.id past)) ∙ ap (λ b. (slot_at b c.args.id).state) c.self.view_is
