use Rattle.book_core.proofs.CloseLemmas.{shut-sound, shut-answers}
use Rattle.book_core.proofs.book.Book.shut.Goals as goal

pub settle-requires-clause-sound : goal.settle-requires-clause-sound
settle-requires-clause-sound c = shut-sound c.args.self.now c.args.id c.args.why c.requires.held c.requires.unrefused c.requires.sound

pub returns : goal.returns
returns c = shut-answers c.args.self.now c.args.id c.args.why c.requires.held c.requires.unrefused c.settle.new.self c.settle.ensures
