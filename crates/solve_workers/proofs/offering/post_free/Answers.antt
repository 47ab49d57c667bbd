use Rattle.book_rules.specs.Events.{post}
use Rattle.solve_workers.proofs.DrivenLemmas.{driven_does}
use Rattle.solve_workers.proofs.PriceLemmas.{posted_slots, still_nothing}
use Rattle.solve_workers.proofs.offering.post_free.Goals as goal

pub returns-clause-free : goal.returns-clause-free
returns-clause-free c = still_nothing c.args.book.now c.post.new.self (posted_slots c.args.book.now c.args.cut c.post.result c.post.new.self c.post.ensures) c.requires.free

pub returns-clause-driven : goal.returns-clause-driven
returns-clause-driven c = driven_does c.args.book.now (post c.args.cut) c.post.result c.post.new.self c.keeps.ensures c.is_cut.ensures tt c.post.ensures
