use Rattle.book_core.proofs.CloseLemmas.{from-sound, from-answers}
use Rattle.book_core.proofs.book.Book.shut_from.Goals as goal

pub shut_at-requires-clause-sound : goal.shut_at-requires-clause-sound
shut_at-requires-clause-sound c = from-sound c.args.self.now c.args.id c.args.why c.requires.held c.args.number c.requires.asked c.requires.sound

pub returns : goal.returns
returns c = from-answers c.args.self.now c.args.id c.args.why c.requires.held c.args.number c.requires.asked c.shut_at.result c.shut_at.new.self c.shut_at.ensures
