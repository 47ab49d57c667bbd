use Rattle.std.proofs.Common.{◌≡◌, ◌-◌, ◌++◌, take, replicate, length}
use Rattle.lock_model.specs.declared.limits.TheConstants.{MOST}
use Rattle.placed_groups.proofs.group_key.GroupKey.of.Given as goal

abbrev pub invariant-loop-i : goal.invariant-loop-i
invariant-loop-i l = (l.places ≡ take l.i l.ships ++ replicate (MOST - l.i) 255) × (length l.places ≡ MOST)
