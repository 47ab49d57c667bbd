use Rattle.std.proofs.Common.{length, ap, arith}
use Rattle.book_rules.specs.Book.{Case}
use Rattle.book_core.specs.Seen.{seen}
use Rattle.book_core.proofs.PathLemmas.{tree-of, tree-in}
use Rattle.book_core.proofs.SettleLemmas.{slots-known}
use Rattle.book_core.proofs.book.Book.node_of.Goals as goal

pub node_from_root-requires-clause-tree : goal.node_from_root-requires-clause-tree
node_from_root-requires-clause-tree c =
    let a = c.self.inside in
    tree-in c.case.inside.instance a.case.instance (ap (λ (k : Case). k.instance) c.case.view_is) c.as_slice.result.now a.slots.items c.as_slice.ensures.value (tree-of (seen a) c.self.invariant.sound)

pub node_from_root-requires-clause-known : goal.node_from_root-requires-clause-known
node_from_root-requires-clause-known c =
    let known = slots-known c.self.inside c.args.self.now c.self.view_is c.args.id c.requires in
    omega (arith, known, ap length c.as_slice.ensures.value)
