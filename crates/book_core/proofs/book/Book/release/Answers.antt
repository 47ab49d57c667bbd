use Rattle.std.proofs.Common.{sym, ◌∙◌}
use Rattle.book_core.proofs.EventLemmas.{release-ended, returned-sound, returned-answers, finished-sound, finished-answers}
use Rattle.book_core.proofs.book.Book.release.Goals as goal

pub returns-then-ended : goal.returns-then-ended
returns-then-ended c = release-ended c.args.self.now c.args.worker (sym c.ended.ensures ∙ c.if-ended.true)

pub put_back-requires-clause-sound : goal.put_back-requires-clause-sound
put_back-requires-clause-sound c =
    returned-sound c.args.self.now c.args.worker c.keeps.ensures c.requires (sym c.ended.ensures ∙ c.if-ended.false) c.in-Some.id (sym c.held_by.ensures ∙ c.in-Some.is)

pub end-requires-clause-sound : goal.end-requires-clause-sound
end-requires-clause-sound c =
    finished-sound c.args.self.now c.args.worker c.keeps.ensures c.requires (sym c.ended.ensures ∙ c.if-ended.false) (sym c.held_by.ensures ∙ c.in-None.is)

pub returns-in-Some : goal.returns-in-Some
returns-in-Some c =
    returned-answers c.args.self.now c.args.worker c.keeps.ensures c.requires (sym c.ended.ensures ∙ c.if-ended.false) c.in-Some.id c.put_back.new.self (sym c.held_by.ensures ∙ c.in-Some.is) c.put_back.ensures

pub returns-in-None : goal.returns-in-None
returns-in-None c =
    finished-answers c.args.self.now c.args.worker c.keeps.ensures c.requires (sym c.ended.ensures ∙ c.if-ended.false) c.end.new.self (sym c.held_by.ensures ∙ c.in-None.is) c.end.ensures
