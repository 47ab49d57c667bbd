use Rattle.price_groups.specs.Asked.{group_asked}
use Rattle.price_groups.specs.Growing.{AreJoining}
use Rattle.price_groups.specs.Sums.{AreWeighed}
use Rattle.price_groups.proofs.growing.join_each.Given as goal

abbrev pub invariant-loop-place : goal.invariant-loop-place
invariant-loop-place l = record {
  joining : AreJoining (group_asked l.extension) l.base l.ship l.initial.groups.items l.place l.groups.items;
  weighed : AreWeighed l.extension.case.now.instance.now l.extension.case.now.index l.groups.items l.sums.items;
}
