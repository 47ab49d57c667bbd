-- Instances with the same chambers and ships.
use Rattle.std.proofs.Common.{◌≡◌, List, ap, subst}
use Rattle.std.proofs.Props.{props}
use Rattle.lock_model.specs.Instance.{IsInstance}
use Rattle.lock_model.specs.declared.chamber.Chamber.{Chamber}
use Rattle.lock_model.specs.declared.ship.Ship.{Ship}
use Rattle.lock_model.specs.declared.instance.Instance.{Instance}

IsInstance-prop : (cs : List Chamber) (ss : List Ship) → IsProp (IsInstance cs ss)
IsInstance-prop cs ss = hlevel props

abbrev made : (cs : List Chamber) (ss : List Ship) → IsInstance cs ss → Instance
made cs ss limits = record { chambers = cs; ships = ss; limits = limits }

made_same : (cs cs' : List Chamber) (ss ss' : List Ship) → cs ≡ cs' → ss ≡ ss' → (a : IsInstance cs ss) (b : IsInstance cs' ss') → made cs ss a ≡ made cs' ss' b
made_same cs cs' ss ss' p q =
    let P : List Chamber → Type 0 = λ xs. (a : IsInstance cs ss) (b : IsInstance xs ss') → made cs ss a ≡ made xs ss' b in
    let Q : List Ship → Type 0 = λ ys. (a : IsInstance cs ss) (b : IsInstance cs ys) → made cs ss a ≡ made cs ys b in
    subst P p (subst Q q (λ a b. ap (made cs ss) (IsInstance-prop cs ss a b)))

pub same_instance : (I I' : Instance) → I.chambers ≡ I'.chambers → I.ships ≡ I'.ships → I ≡ I'
same_instance I I' p q = made_same I.chambers I'.chambers I.ships I'.ships p q I.limits I'.limits
