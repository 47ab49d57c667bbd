use Rattle.std.proofs.Common.{◌≡◌, ◌++◌, ◌∷◌, take, length}
use Rattle.chamber_place.proofs.faults.write_walk.Given as goal

abbrev pub invariant-loop-number : goal.invariant-loop-number
invariant-loop-number l = l.marks ≡ l.fn.marks ++ length l.numbers ∷ take l.number-index l.numbers
