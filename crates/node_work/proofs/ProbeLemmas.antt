-- The ship that a node lacks first is missing.
use Rattle.std.proofs.Common.{◌≡◌, ℕ, zero, suc, ◌<◌, ◌≤◌, List, [], ◌∷◌, length, drop, refl, sym, ap, ◌∙◌, subst, arith, Contains, slice_index_or, Result, Ok, Err, IfOk}
use Rattle.lock_model.specs.declared.instance.Instance.{Instance}
use Rattle.lock_model.specs.declared.group.Group.{Group}
use Rattle.lock_rules.specs.Arrival.{order_of, missing_ships, next_ship}
use Rattle.lock_rules.specs.Bound.{probe_of}
use Rattle.closing_rules.specs.declared.grounds.Ground.TheVariants as by
use Rattle.node_work.specs.declared.fate.Fate.{Fate}
use Rattle.node_work.specs.declared.fate.Fate.TheVariants.{Closed}
use Rattle.lock_rules.proofs.SplitLemmas.{length-order}

first-left : (xs : List ℕ) (k : ℕ) → k < length xs → Contains (drop k xs) (slice_index_or xs k 0)
first-left [] k known = absurd (omega (arith, known))
first-left (x ∷ xs) zero known = (0, omega arith, refl)
first-left (x ∷ xs) (suc k) known = first-left xs k (omega (arith, known))

next-missing : (I : Instance) (k : ℕ) → k < length I.ships → Contains (missing_ships I k) (next_ship I k)
next-missing I k lacks = first-left (order_of I) k (omega (arith, lacks, length-order I))

-- the probe of the next ship is at least the best cost
pub probe_closes : (I J : Instance) (k d : ℕ) (lines : List (List Group)) (ship best least : ℕ) → J ≡ I → d ≡ k → k < length J.ships → ship ≡ next_ship I d → least ≡ probe_of J k lines (next_ship J k) → best ≤ least
    → Contains (missing_ships I k) ship × best ≤ probe_of I k lines ship
probe_closes I J k d lines ship best least same depth lacks next least_is high =
    let own : ship ≡ next_ship I k = next ∙ ap (next_ship I) depth in
    subst (λ s. Contains (missing_ships I k) s × best ≤ probe_of I k lines s) (sym own)
    (subst (λ (K : Instance). Contains (missing_ships K k) (next_ship K k) × best ≤ probe_of K k lines (next_ship K k)) same
    (next-missing J k lacks, subst (λ m. best ≤ m) least_is high))

-- the probe of the next ship is below the best cost, so nothing is asked of the node's fate
pub probe_cheap : {E : Type 0} (I J : Instance) (k : ℕ) (lines : List (List Group)) (best least : ℕ) (r : Result Fate E) → J ≡ I → least ≡ probe_of J k lines (next_ship J k) → least < best
    → IfOk r (λ fate. best ≤ probe_of I k lines (next_ship I k) → fate ≡ Closed (by.Probe (next_ship I k)))
probe_cheap I J k lines best least (Ok fate) same least_is low =
    let own : least ≡ probe_of I k lines (next_ship I k) = subst (λ (K : Instance). least ≡ probe_of K k lines (next_ship K k)) same least_is in
    λ high. absurd (omega (arith, own, low, high))
probe_cheap I J k lines best least (Err e) same least_is low = tt
