use Rattle.std.proofs.Common.{arith}
use Rattle.solve_workers.specs.Holds.{node_at}
use Rattle.solve_workers.proofs.FreeLemmas.{held-known}
use Rattle.solve_workers.proofs.held.held_bound.Goals as goal

pub unreachable-requires : goal.unreachable-requires
unreachable-requires c = omega (arith, held-known c.args.book.now c.args.id (node_at c.args.book.now c.args.id) c.requires, c.in-None.ensures.none)
