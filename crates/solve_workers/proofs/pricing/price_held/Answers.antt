use Rattle.solve_workers.proofs.HeldLemmas.{search_node}
use Rattle.solve_workers.proofs.pricing.price_held.Goals as goal

pub ask-requires-clause-node : goal.ask-requires-clause-node
ask-requires-clause-node g c = search_node c.args.book.now c.args.held.now.id c.args.held.now.node.now c.requires.holds c.keeps.ensures c.args.driver.now.search c.requires.own
