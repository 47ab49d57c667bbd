use Rattle.price_groups.specs.Asked.{group_asked}
use Rattle.price_groups.specs.Growing.{AreGrown}
use Rattle.price_groups.specs.Sums.{AreWeighed}
use Rattle.price_groups.proofs.growing.grown.Given as goal

abbrev pub invariant-loop-ship : goal.invariant-loop-ship
invariant-loop-ship l = record {
  grown : AreGrown (group_asked l.extension) l.base l.ship l.groups.items;
  weighed : AreWeighed l.extension.case.now.instance.now l.extension.case.now.index l.groups.items l.sums.items;
}
