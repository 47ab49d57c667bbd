use Rattle.std.proofs.Common.{◌-◌, ◌*◌, length}
use Rattle.cert_check.specs.Reading.{AreReadLow}
use Rattle.cert_check.proofs.reading.+tree.Given as goal

abbrev pub decreases-read_made_child : goal.decreases-read_made_child
decreases-read_made_child l = 4 * (length l.claim.now.instance.now.ships - l.parent.now.node.now.depth) - 3

abbrev pub decreases-read_child : goal.decreases-read_child
decreases-read_child l = 4 * (length l.claim.now.instance.now.ships - l.parent.now.node.now.depth) - 2

abbrev pub decreases-read_children : goal.decreases-read_children
decreases-read_children l = 4 * (length l.claim.now.instance.now.ships - l.node.now.depth) - 1

abbrev pub decreases-read_tree : goal.decreases-read_tree
decreases-read_tree l = 4 * (length l.claim.now.instance.now.ships - l.node.now.depth)

abbrev pub invariant-read_children-loop-i : goal.invariant-read_children-loop-i
invariant-read_children-loop-i l = AreReadLow l.claim l.node l.i l.low l.marks l.rest l.least
