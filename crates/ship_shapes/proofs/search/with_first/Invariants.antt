use Rattle.std.proofs.Common.{◌≡◌, ◌∷◌, take}
use Rattle.ship_shapes.proofs.search.with_first.Given as goal

abbrev pub invariant-loop-other : goal.invariant-loop-other
invariant-loop-other l = l.ships ≡ l.ship ∷ take l.other-index l.others
