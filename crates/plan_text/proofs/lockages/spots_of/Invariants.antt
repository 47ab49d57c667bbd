use Rattle.std.proofs.Common.{◌≡◌, map, take}
use Rattle.plan_text.specs.Berths.{spot_of, berth_of}
use Rattle.plan_text.proofs.lockages.spots_of.Given as goal

abbrev pub invariant-loop-ship : goal.invariant-loop-ship
invariant-loop-ship l = l.spots ≡ map (λ s. spot_of l.ships (berth_of s l.berths)) (take l.ship-index l.ships)
