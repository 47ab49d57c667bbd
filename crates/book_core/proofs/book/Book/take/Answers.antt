use Rattle.book_core.proofs.EventLemmas.{grants-answers, grants-node}
use Rattle.book_core.proofs.book.Book.take.Goals as goal

pub returns-clause-step : goal.returns-clause-step
returns-clause-step c = grants-answers c.args.self.now c.args.worker c.take_slot-grant.result c.take_slot-grant.new.self c.take_slot-grant.ensures.step c.grant_reply.result c.grant_reply.ensures.told

pub returns-clause-node : goal.returns-clause-node
returns-clause-node c = grants-node c.args.self.now c.args.worker c.take_slot-grant.result c.take_slot-grant.new.self c.take_slot-grant.ensures.step c.grant_reply.result c.grant_reply.ensures.node
