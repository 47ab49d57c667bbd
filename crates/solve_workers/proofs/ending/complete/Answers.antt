use Rattle.std.proofs.Common.{sym, ◌∙◌}
use Rattle.book_rules.specs.Events.{replace}
use Rattle.solve_workers.proofs.DrivenLemmas.{driven_does, driven_then}
use Rattle.solve_workers.proofs.GrowLemmas.{want_kept}
use Rattle.solve_workers.proofs.HeldLemmas.{complete_closable, complete_holds}
use Rattle.solve_workers.specs.Holds.{node_at}
use Rattle.solve_workers.proofs.ending.complete.Goals as goal

pub returns-then-is_want-clause-driven : goal.returns-then-is_want-clause-driven
returns-then-is_want-clause-driven c = driven_does c.args.book.now (replace c.args.plan) c.replace.result c.replace.new.self c.keeps.ensures tt tt c.replace.ensures

pub returns-then-is_want-clause-kept : goal.returns-then-is_want-clause-kept
returns-then-is_want-clause-kept c = want_kept c.args.book.now (replace c.args.plan) c.replace.result c.replace.new.self c.replace.ensures (sym c.is_want.ensures ∙ c.if-is_want.true)

pub close-requires-clause-holds : goal.close-requires-clause-holds
close-requires-clause-holds c =
    complete_holds c.args.book.now c.args.id (node_at c.args.book.now c.args.id) c.requires.holds c.args.plan c.replace.result c.replace.new.self c.requires.plan.legal (sym c.is_want.ensures ∙ c.if-is_want.false) c.replace.ensures

pub close-requires-clause-closed : goal.close-requires-clause-closed
close-requires-clause-closed c =
    complete_closable c.args.book.now c.args.id (node_at c.args.book.now c.args.id) c.requires.holds c.args.plan c.replace.result c.replace.new.self c.keeps.ensures c.requires.plan (sym c.is_want.ensures ∙ c.if-is_want.false) c.replace.ensures

pub returns-clause-driven : goal.returns-clause-driven
returns-clause-driven c =
    driven_then c.args.book.now c.replace.new.self c.close.new.book (driven_does c.args.book.now (replace c.args.plan) c.replace.result c.replace.new.self c.keeps.ensures tt tt c.replace.ensures) c.close.ensures.driven
