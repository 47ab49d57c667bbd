use Rattle.closing_rules.specs.declared.grounds.Ground.TheVariants as by
use Rattle.book_rules.specs.Events.{post}
use Rattle.solve_workers.proofs.GrowLemmas.{post_granted, posted_holds, want_kept}
use Rattle.solve_workers.proofs.DrivenLemmas.{driven_does, driven_then}
use Rattle.solve_workers.proofs.HeldLemmas.{posted_closable, slot_holds, slot_closable, err_of}
use Rattle.solve_workers.specs.Holds.{node_at}
use Rattle.solve_workers.proofs.ending.refute.Goals as goal

pub posted-requires : goal.posted-requires
posted-requires c = post_granted c.args.book.now c.args.cut c.post-reply.result c.post-reply.new.self c.requires.cut.own c.post-reply.ensures

pub close-requires-clause-holds : goal.close-requires-clause-holds
close-requires-clause-holds c =
    slot_holds c.post-reply.new.self c.args.id (node_at c.args.book.now c.args.id)
    (posted_holds c.args.book.now c.args.cut c.post-reply.result c.post-reply.new.self c.in_ok-number.number c.post-reply.ensures c.in_ok-number.ensures.posted c.args.id (node_at c.args.book.now c.args.id) c.requires.holds)

pub close-requires-clause-closed : goal.close-requires-clause-closed
close-requires-clause-closed c =
    slot_closable c.post-reply.new.self c.args.id (node_at c.args.book.now c.args.id) (by.Cut c.in_ok-number.number)
    (posted_holds c.args.book.now c.args.cut c.post-reply.result c.post-reply.new.self c.in_ok-number.number c.post-reply.ensures c.in_ok-number.ensures.posted c.args.id (node_at c.args.book.now c.args.id) c.requires.holds)
    (posted_closable c.args.book.now (node_at c.args.book.now c.args.id) c.args.cut c.post-reply.result c.post-reply.new.self c.in_ok-number.number c.post-reply.ensures c.in_ok-number.ensures.posted c.requires.cut)

pub returns-clause-driven : goal.returns-clause-driven
returns-clause-driven c =
    driven_then c.args.book.now c.post-reply.new.self c.close.new.book (driven_does c.args.book.now (post c.args.cut) c.post-reply.result c.post-reply.new.self c.keeps.ensures c.requires.cut.proved tt c.post-reply.ensures) c.close.ensures.driven

pub returns-in_err-number-clause-kept : goal.returns-in_err-number-clause-kept
returns-in_err-number-clause-kept c = err_of c.from_residual.result (want_kept c.args.book.now (post c.args.cut) c.post-reply.result c.post-reply.new.self c.post-reply.ensures c.in_err-number.ensures.want)

pub returns-in_err-number-clause-driven : goal.returns-in_err-number-clause-driven
returns-in_err-number-clause-driven c = driven_does c.args.book.now (post c.args.cut) c.post-reply.result c.post-reply.new.self c.keeps.ensures c.requires.cut.proved tt c.post-reply.ensures
