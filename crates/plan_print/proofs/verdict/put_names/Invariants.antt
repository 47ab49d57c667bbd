use Rattle.std.proofs.Common.{◌≡◌, ◌∷◌, ◌++◌, take}
use Rattle.std.specs.List.{flat_map}
use Rattle.lock_model.specs.Fleet.{ship_at}
use Rattle.plan_print.proofs.verdict.put_names.Given as goal

abbrev pub invariant-loop-ship : goal.invariant-loop-ship
invariant-loop-ship l = l.out.items ≡ l.initial.out.items ++ flat_map (λ s. 32 ∷ (ship_at l.instance s).name) (take l.ship-index l.ship-items)
