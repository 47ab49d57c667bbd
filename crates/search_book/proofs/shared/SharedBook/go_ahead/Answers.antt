use Rattle.search_book.proofs.AskedLemmas.{went_ahead}
use Rattle.search_book.proofs.shared.SharedBook.go_ahead.Goals as goal

pub returns-clause-asked : goal.returns-clause-asked
returns-clause-asked g c = went_ahead _ _ c.args.worker c.args.id c.args.stretch.now.nodes.items c.go_ahead-gone.result c.keeps.ensures c.go_ahead-gone.ensures.steps
