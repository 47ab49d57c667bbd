use Rattle.price_bound.specs.KeptGroups.{AreSparedLists}
use Rattle.price_bound.proofs.kept_groups.spared_lists.Given as goal

abbrev pub invariant-loop-list : goal.invariant-loop-list
invariant-loop-list l = AreSparedLists l.masks l.lists l.list-index l.spared.items
