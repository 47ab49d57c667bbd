use Rattle.std.proofs.Common.{◌+◌, ◌-◌, ◌*◌}
use Rattle.refute_rules.specs.BerthTrees.{OfBerth}
use Rattle.berth_place.specs.Visits.{IsPartWay}
use Rattle.berth_place.proofs.deciding.+decide.Given as goal

abbrev pub decreases-decide : goal.decreases-decide
decreases-decide l = 3 * (l.search.now.turns + 1 - l.search.now.tried) + 2

abbrev pub decreases-split_berth : goal.decreases-split_berth
decreases-split_berth l = 3 * (l.search.now.turns + 1 - l.search.now.tried) + 1

abbrev pub decreases-try_berth : goal.decreases-try_berth
decreases-try_berth l = 3 * (l.search.now.turns + 1 - l.search.now.tried)

abbrev pub invariant-split_berth-loop-option : goal.invariant-split_berth-loop-option
invariant-split_berth-loop-option l = IsPartWay l.deck l.fn.search l.search (OfBerth l.ship) l.option
