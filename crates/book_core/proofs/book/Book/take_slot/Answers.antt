use Rattle.std.proofs.Common.{sym, ◌∙◌}
use Rattle.book_core.proofs.EventLemmas.{take-ended, take-holds}
use Rattle.book_core.proofs.book.Book.take_slot.Goals as goal

pub returns-then-ended-clause-step : goal.returns-then-ended-clause-step
returns-then-ended-clause-step c = take-ended c.args.self.now c.args.worker (sym c.ended.ensures ∙ c.if-ended.true)

pub returns-in-Some-clause-step : goal.returns-in-Some-clause-step
returns-in-Some-clause-step c = take-holds c.args.self.now c.args.worker c.in-Some.id (sym c.ended.ensures ∙ c.if-ended.false) (sym c.held_by.ensures ∙ c.in-Some.is)
