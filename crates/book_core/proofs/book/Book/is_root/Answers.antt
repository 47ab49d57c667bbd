use Rattle.book_core.proofs.SweepingLemmas.{root-depth}
use Rattle.book_core.proofs.book.Book.is_root.Goals as goal

pub returns : goal.returns
returns c = root-depth c.args.self.now c.requires.sound c.args.id c.requires.known
