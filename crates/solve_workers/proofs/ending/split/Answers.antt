use Rattle.book_rules.specs.Events.{split}
use Rattle.solve_workers.proofs.GrowLemmas.{split_granted, split_made, want_kept}
use Rattle.solve_workers.proofs.DrivenLemmas.{driven_does}
use Rattle.solve_workers.proofs.HeldLemmas.{on_ok, on_err}
use Rattle.solve_workers.specs.Holds.{node_at}
use Rattle.solve_workers.proofs.ending.split.Goals as goal

pub made-requires : goal.made-requires
made-requires c = split_granted c.args.book.now c.args.id (node_at c.args.book.now c.args.id) c.split-reply.result c.split-reply.new.self c.requires.holds c.requires.lacks c.split-reply.ensures

pub returns-clause-freed : goal.returns-clause-freed
returns-clause-freed c =
    on_ok c.made.result c.made.ensures.made
    (split_made c.args.book.now c.args.id (node_at c.args.book.now c.args.id) c.split-reply.result c.split-reply.new.self c.requires.holds c.split-reply.ensures)

pub returns-clause-kept : goal.returns-clause-kept
returns-clause-kept c = on_err c.made.result c.made.ensures.want (want_kept c.args.book.now (split c.args.id) c.split-reply.result c.split-reply.new.self c.split-reply.ensures)

pub returns-clause-driven : goal.returns-clause-driven
returns-clause-driven c = driven_does c.args.book.now (split c.args.id) c.split-reply.result c.split-reply.new.self c.keeps.ensures tt tt c.split-reply.ensures
