use Rattle.std.proofs.Common.{◌≡◌, ◌+◌, ◌-◌, ◌*◌, length}
use Rattle.place_refute.specs.Walking.{AreChildrenAt}
use Rattle.place_refute.proofs.tree.+tree.Given as goal

abbrev pub decreases-tree_end : goal.decreases-tree_end
decreases-tree_end l = 3 * (length l.reading.now.decisions.now - length l.case.now.choices) + 2

abbrev pub decreases-children_end : goal.decreases-children_end
decreases-children_end l = 3 * (length l.reading.now.decisions.now - length l.case.now.choices) + 1

abbrev pub decreases-child_end : goal.decreases-child_end
decreases-child_end l = 3 * (length l.reading.now.decisions.now - length l.case.now.choices)

abbrev pub invariant-children_end-loop-number : goal.invariant-children_end-loop-number
invariant-children_end-loop-number l = record {
  kept : l.case ≡ l.fn.case;
  children : AreChildrenAt l.reading.deck.now l.reading.trees l.reading.decisions.now l.fn.case.choices l.reading.marks.now l.first l.number l.end;
}
