use Rattle.std.proofs.Common.{◌+◌, sym, ◌∙◌, arith}
use Rattle.book_core.proofs.EventLemmas.{take-spent, fresh-given, is-new, given-sound, given-grants}
use Rattle.book_core.proofs.HandOverLemmas.{given-held, given-node}
use Rattle.book_core.proofs.book.Book.take_fresh.Goals as goal

pub returns-then-used-nodes-clause-step : goal.returns-then-used-nodes-clause-step
returns-then-used-nodes-clause-step c =
    take-spent c.args.self.now c.args.worker c.args.id c.used-used.result c.used-used.ensures c.requires.running c.requires.empty c.requires.back c.requires.next (c.if-used-nodes.true ∙ c.nodes.ensures)

pub give-requires-clause-open : goal.give-requires-clause-open
give-requires-clause-open c = is-new c.args.self.now c.args.worker c.args.id c.requires.back c.requires.next

pub give-requires-clause-sound : goal.give-requires-clause-sound
give-requires-clause-sound c =
    let b = c.args.self.now in
    let used = c.used-used.ensures in
    let same = fresh-given b c.args.worker c.args.id c.used-used.result used c.requires.running c.requires.empty c.requires.back c.requires.next (λ e. c.if-used-nodes.false (e ∙ sym c.nodes.ensures)) (c.used-used.result + 1) (omega arith) in
    given-sound b c.args.worker c.requires.sound c.requires.known c.args.id (c.used-used.result + 1) same

pub returns-clause-step : goal.returns-clause-step
returns-clause-step c =
    let b = c.args.self.now in
    let used = c.used-used.ensures in
    let same = fresh-given b c.args.worker c.args.id c.used-used.result used c.requires.running c.requires.empty c.requires.back c.requires.next (λ e. c.if-used-nodes.false (e ∙ sym c.nodes.ensures)) (c.used-used.result + 1) (omega arith) in
    given-grants b c.args.worker c.requires.sound c.requires.known c.args.id (c.used-used.result + 1) same c.give.new.self
    (given-node b c.args.id c.args.worker (c.used-used.result + 1) (is-new b c.args.worker c.args.id c.requires.back c.requires.next) c.give.new.self c.give.ensures) c.give.ensures

pub returns-clause-held : goal.returns-clause-held
returns-clause-held c = let b = c.args.self.now in given-held b c.args.id c.args.worker (c.used-used.result + 1) (is-new b c.args.worker c.args.id c.requires.back c.requires.next) c.give.new.self c.give.ensures
