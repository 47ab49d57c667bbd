use Rattle.book_rules.specs.Book.{slot_at}
use Rattle.book_core.proofs.ShowingLemmas.{told-node}
use Rattle.book_core.proofs.book.Book.has_node.Goals as goal

pub returns-in-Some : goal.returns-in-Some
returns-in-Some c = told-node c.equals.result c.args.node.now c.in-Some.hand.now.node (slot_at c.args.self.now c.args.id).node c.equals.ensures c.in-Some.ensures.some.own.same

pub returns-in-None : goal.returns-in-None
returns-in-None c = told-node c.equals-in-None.result c.args.node.now c.node_of.result (slot_at c.args.self.now c.args.id).node c.equals-in-None.ensures c.node_of.ensures.value
