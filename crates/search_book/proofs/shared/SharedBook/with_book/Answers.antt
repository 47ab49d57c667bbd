use Rattle.search_book.proofs.AskedLemmas.{was_made}
use Rattle.search_book.proofs.shared.SharedBook.with_book.Goals as goal

pub returns-clause-asked : goal.returns-clause-asked
returns-clause-asked g c = was_made _ _ _ _ c.keeps.ensures c.apply-reply.ensures.step
