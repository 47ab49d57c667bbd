use Rattle.std.proofs.Common.{◌<◌, ◌≤◌, length, sym, ap, ◌∙◌, arith}
use Rattle.book_rules.specs.Book.{first_slot, is_held_by}
use Rattle.book_core.specs.Hands.{id_of, ids_of}
use Rattle.book_core.specs.Seen.{seen}
use Rattle.book_core.proofs.HandLemmas.{first-held, hand-past}
use Rattle.book_core.proofs.HeldLemmas.{at-any, ids-at, length-ids}
use Rattle.book_core.proofs.book.Book.held_by.Goals as goal

pub returns-then-worker-le-WORKERS : goal.returns-then-worker-le-WORKERS
returns-then-worker-le-WORKERS c =
    let a = c.self.inside in
    let known : c.args.worker < length a.hands = omega (arith, c.self.invariant.tables.hands_are.nine, length-ids a.hands) in
    c.id_of.ensures ∙ ap id_of (at-any a.hands c.args.worker c.index-self-worker.result known) ∙ sym (ids-at a.hands c.args.worker)
    ∙ first-held (seen a) (ids_of a.hands) c.args.worker c.self.invariant.tables.hands_are ∙ ap (λ b. first_slot b (is_held_by c.args.worker)) c.self.view_is

pub returns-else-worker-le-WORKERS : goal.returns-else-worker-le-WORKERS
returns-else-worker-le-WORKERS c =
    let a = c.self.inside in
    let past : length (ids_of a.hands) ≤ c.args.worker = omega (arith, c.self.invariant.tables.hands_are.nine) in
    sym (hand-past (ids_of a.hands) c.args.worker past) ∙ first-held (seen a) (ids_of a.hands) c.args.worker c.self.invariant.tables.hands_are ∙ ap (λ b. first_slot b (is_held_by c.args.worker)) c.self.view_is
