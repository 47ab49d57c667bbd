use Rattle.std.proofs.Common.{sym, ap, ◌∙◌}
use Rattle.book_rules.specs.Step.{probe_at}
use Rattle.book_core.proofs.MissingLemmas.{next-true}
use Rattle.book_core.proofs.book.Book.probe_with.Goals as goal

pub returns-then-is_next-clause-some : goal.returns-then-is_next-clause-some
returns-then-is_next-clause-some c =
    let b = c.args.self.now in
    let next = c.if-is_next.ensures in
    (next-true b c.args.id c.args.ship next, c.next_probe.ensures.value ∙ ap (probe_at b c.args.id) (sym next.next))

pub next_probe-requires-clause-held : goal.next_probe-requires-clause-held
next_probe-requires-clause-held c = sym c.is_held.ensures.value ∙ c.if-not-is_held.false
