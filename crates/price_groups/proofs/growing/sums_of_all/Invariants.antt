use Rattle.std.proofs.Common.{take}
use Rattle.price_groups.specs.Sums.{AreWeighed}
use Rattle.price_groups.proofs.growing.sums_of_all.Given as goal

abbrev pub invariant-loop-group : goal.invariant-loop-group
invariant-loop-group l = AreWeighed l.extension.case.now.instance.now l.extension.case.now.index (take l.group-index l.groups) l.sums.items
