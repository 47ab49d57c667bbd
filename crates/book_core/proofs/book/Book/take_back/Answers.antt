use Rattle.std.proofs.Common.{sym, ap, ◌∙◌}
use Rattle.book_core.proofs.EventLemmas.{back-given, given-sound, given-grants}
use Rattle.book_core.specs.Changes.{IsReturned}
use Rattle.book_core.proofs.HandOverLemmas.{given-held, given-node}
use Rattle.book_rules.specs.Step.{given}
use Rattle.book_core.proofs.book.Book.take_back.Goals as goal

pub give-requires-clause-sound : goal.give-requires-clause-sound
give-requires-clause-sound c =
    let b = c.args.self.now in
    given-sound b c.args.worker c.requires.sound c.requires.known c.args.id c.used-used.result
    (back-given b c.args.worker c.args.id c.requires.running c.requires.empty c.requires.first ∙ ap (given b c.args.worker c.args.id) (sym c.used-used.ensures))

pub returns-clause-step : goal.returns-clause-step
returns-clause-step c =
    let b = c.args.self.now in
    given-grants b c.args.worker c.requires.sound c.requires.known c.args.id c.used-used.result
    (back-given b c.args.worker c.args.id c.requires.running c.requires.empty c.requires.first ∙ ap (given b c.args.worker c.args.id) (sym c.used-used.ensures))
    c.give.new.self (given-node b c.args.id c.args.worker c.used-used.result (IsReturned c.requires.first) c.give.new.self c.give.ensures) c.give.ensures

pub returns-clause-held : goal.returns-clause-held
returns-clause-held c = given-held c.args.self.now c.args.id c.args.worker c.used-used.result (IsReturned c.requires.first) c.give.new.self c.give.ensures
