use Rattle.search_book.specs.declared.event.Event.TheVariants as event
use Rattle.search_book.proofs.AskedLemmas.{was_made}
use Rattle.search_book.proofs.shared.SharedBook.take_or_wait.Goals as goal

pub returns-then-not-is_idle-clause-asked : goal.returns-then-not-is_idle-clause-asked
returns-then-not-is_idle-clause-asked g c = was_made _ _ (event.Take c.args.worker) c.apply-reply.result c.keeps.ensures c.apply-reply.ensures.step
