use Rattle.search_book.proofs.AskedLemmas.{was_shut}
use Rattle.search_book.proofs.shared.SharedBook.close_and_take.Goals as goal

pub returns-clause-asked : goal.returns-clause-asked
returns-clause-asked g c = was_shut _ _ _ _ _ c.keeps.ensures c.close_and_take-next.ensures.steps
