use Rattle.std.proofs.Common.{◌+◌, ◌*◌, length}
use Rattle.refute_rules.specs.BerthTrees.{OfOrder}
use Rattle.berth_place.specs.Visits.{IsPartWay}
use Rattle.berth_place.proofs.ordering.+order_pairs.Given as goal

abbrev pub decreases-order_pairs : goal.decreases-order_pairs
decreases-order_pairs l = 4 * length l.pairs.now.items + 3

abbrev pub decreases-place_pairs : goal.decreases-place_pairs
decreases-place_pairs l = 4 * length l.pairs.now.items + 2

abbrev pub decreases-split_pair : goal.decreases-split_pair
decreases-split_pair l = 4 * length l.pairs.now.items + 1

abbrev pub decreases-try_order : goal.decreases-try_order
decreases-try_order l = 4 * length l.left.now.items + 4

abbrev pub invariant-split_pair-loop-option : goal.invariant-split_pair-loop-option
invariant-split_pair-loop-option l = IsPartWay l.deck l.fn.search l.search (OfOrder l.pair.lower l.pair.upper) l.option
