use Rattle.std.proofs.Common.{sym, ◌∙◌, true≢false}
use Rattle.solve_workers.specs.Holds.{node_at}
use Rattle.solve_workers.proofs.FreeLemmas.{is-held}
use Rattle.solve_workers.proofs.held.held_node.Goals as goal

pub returns : goal.returns
returns c = c.in-Some.ensures.some.same

pub unreachable-requires : goal.unreachable-requires
unreachable-requires c = true≢false (sym (is-held c.args.book.now c.args.id (node_at c.args.book.now c.args.id) c.requires) ∙ c.in-None.ensures.none)
