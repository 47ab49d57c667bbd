use Rattle.std.proofs.Common.{◌≡◌, take}
use Rattle.chamber_place.proofs.faults.copy_numbers.Given as goal

abbrev pub invariant-loop-number : goal.invariant-loop-number
invariant-loop-number l = l.copy ≡ take l.number-index l.number-items
