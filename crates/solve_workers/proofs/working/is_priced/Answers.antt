use Rattle.std.proofs.Common.{sym, subst, ◌∙◌}
use Rattle.lock_rules.specs.Node.{Node}
use Rattle.solve_workers.specs.Holding.{HoldsOnly}
use Rattle.solve_workers.specs.Holds.{node_at}
use Rattle.solve_workers.proofs.HeldLemmas.{on_false, slot_holds}
use Rattle.solve_workers.proofs.working.is_priced.Goals as goal

pub price_held-requires-clause-holds : goal.price_held-requires-clause-holds
price_held-requires-clause-holds g c = subst (λ (n : Node). HoldsOnly c.args.book.now c.args.id n) (sym (c.copy-node.ensures ∙ c.held_node.ensures)) c.requires.holds

pub returns-clause-held : goal.returns-clause-held
returns-clause-held g c = on_false c.price_held.result c.price_held.ensures.held (slot_holds c.price_held.new.book c.args.id c.copy-node.result)

pub returns-clause-node : goal.returns-clause-node
returns-clause-node g c = on_false c.price_held.result c.price_held.ensures.held (λ holds. holds.node_is ∙ c.copy-node.ensures ∙ c.held_node.ensures)
