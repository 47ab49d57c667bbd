use Rattle.std.proofs.Common.{◌≡◌, [], ◌∷◌, ◌++◌, take}
use Rattle.std.specs.List.{flat_map}
use Rattle.picture_page.proofs.events.put_arrivals.Given as goal

abbrev pub invariant-loop-ship : goal.invariant-loop-ship
invariant-loop-ship l = l.events.items ≡ l.initial.events.items ++ flat_map (λ s. s.arrival ∷ []) (take l.ship-index l.ships)
