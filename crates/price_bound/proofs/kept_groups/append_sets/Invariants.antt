use Rattle.std.proofs.Common.{◌≡◌, ◌++◌, take}
use Rattle.price_bound.proofs.kept_groups.append_sets.Given as goal

abbrev pub invariant-loop-set : goal.invariant-loop-set
invariant-loop-set l = l.sets.items ≡ l.initial.sets.items ++ take l.set-index l.more
