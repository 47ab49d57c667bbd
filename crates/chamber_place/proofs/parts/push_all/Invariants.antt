use Rattle.std.proofs.Common.{◌≡◌, ◌++◌, take}
use Rattle.chamber_place.proofs.parts.push_all.Given as goal

abbrev pub invariant-loop-ship : goal.invariant-loop-ship
invariant-loop-ship l = l.ships ≡ l.fn.ships ++ take l.ship-index l.more
