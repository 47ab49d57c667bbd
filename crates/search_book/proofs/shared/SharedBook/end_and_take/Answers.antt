use Rattle.search_book.proofs.AskedLemmas.{was_followed}
use Rattle.search_book.proofs.shared.SharedBook.end_and_take.Goals as goal

pub returns-clause-asked : goal.returns-clause-asked
returns-clause-asked g c = was_followed _ _ _ _ _ c.keeps.ensures c.apply_and_take-next.ensures.steps
