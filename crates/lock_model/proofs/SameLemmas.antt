-- The derived tests of sameness decide what they are for.
use Rattle.std.proofs.Common.{◌≡◌, ap, arith, rules, List}
use Rattle.std.specs.Bool.{Decides}
use Rattle.std.specs.Cmp.Lexicographic.{pointwise, pointwise_decides, bytes_decides}
use Rattle.std.proofs.lemmas.Bool.Decides.{Decides-and, Decides-like}
use Rattle.std.proofs.lemmas.Grind.{common_steps}
use Rattle.lock_model.specs.declared.way.Stand.{Stand}
use Rattle.lock_model.specs.declared.closure.Closure.{Closure}
use Rattle.lock_model.specs.declared.chamber.Chamber.{Chamber}
use Rattle.lock_model.specs.declared.ship.Ship.{Ship}
use Rattle.lock_model.specs.declared.instance.Instance.{Instance}
use Rattle.lock_model.specs.contracts.way.StandPartialEq.TheImpl as stand_eq
use Rattle.lock_model.specs.contracts.closure.ClosurePartialEq.TheImpl as closure_eq
use Rattle.lock_model.specs.contracts.chamber.ChamberPartialEq.TheImpl as chamber_eq
use Rattle.lock_model.specs.contracts.ship.ShipPartialEq.TheImpl as ship_eq
use Rattle.lock_model.specs.contracts.instance.InstancePartialEq.TheImpl as instance_eq
use Rattle.lock_model.proofs.InstanceLemmas.{same_instance}

stand_decides : (a b : Stand) → Decides ((stand_eq.ghosts).eq a b) (a ≡ b)
stand_decides a b = search rules

closure_decides : (a b : Closure) → Decides ((closure_eq.ghosts).eq a b) (a ≡ b)
closure_decides a b = search rules

closures_decides : (xs ys : List Closure) → Decides (pointwise (closure_eq.ghosts).eq xs ys) (xs ≡ ys)
closures_decides xs ys = pointwise_decides closure_decides xs ys

chamber_decides : (a b : Chamber) → Decides ((chamber_eq.ghosts).eq a b) (a ≡ b)
chamber_decides a b = (
  λ same. let names = bytes_decides a.name b.name in let stands = stand_decides a.stands b.stands in let closures = closures_decides a.closures b.closures in grind (arith, common_steps),
  λ e. search (closures_decides, rules),
)

ship_decides : (a b : Ship) → Decides ((ship_eq.ghosts).eq a b) (a ≡ b)
ship_decides a b = search rules

-- ---- instances: their limits are a fact, and the same whatever shows it

pub instance_decides : (a b : Instance) → Decides ((instance_eq.ghosts).eq a b) (a ≡ b)
instance_decides a b =
    Decides-like ((instance_eq.ghosts).eq a b) (λ h. same_instance a b h.0 h.1) (λ e. (ap (λ (I : Instance). I.chambers) e, ap (λ (I : Instance). I.ships) e))
    (Decides-and (pointwise (chamber_eq.ghosts).eq a.chambers b.chambers) (pointwise (ship_eq.ghosts).eq a.ships b.ships) (pointwise_decides chamber_decides a.chambers b.chambers) (pointwise_decides ship_decides a.ships b.ships))
