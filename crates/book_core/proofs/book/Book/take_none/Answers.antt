use Rattle.std.proofs.Common.{sym, ◌∙◌}
use Rattle.book_core.proofs.EventLemmas.{take-idle, take-done}
use Rattle.book_core.proofs.book.Book.take_none.Goals as goal

pub returns-then-has_held-clause-step : goal.returns-then-has_held-clause-step
returns-then-has_held-clause-step c = take-idle c.args.self.now c.args.worker c.requires.running c.requires.empty c.requires.back c.requires.next (sym c.has_held.ensures ∙ c.if-has_held.true)

pub returns-else-has_held-clause-step : goal.returns-else-has_held-clause-step
returns-else-has_held-clause-step c = take-done c.args.self.now c.args.worker c.requires.running c.requires.empty c.requires.back c.requires.next (sym c.has_held.ensures ∙ c.if-has_held.false)
