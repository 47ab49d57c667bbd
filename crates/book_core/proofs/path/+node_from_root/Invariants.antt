use Rattle.book_core.proofs.path.+node_from_root.Given as goal

abbrev pub decreases-node_from_root : goal.decreases-node_from_root
decreases-node_from_root l = l.id
