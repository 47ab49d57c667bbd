use Rattle.price_bound.specs.KeptGroups.{AreSpared}
use Rattle.price_bound.proofs.kept_groups.spared_list.Given as goal

abbrev pub invariant-loop-one : goal.invariant-loop-one
invariant-loop-one l = AreSpared l.masks l.list.groups.items l.one-index l.groups.items
