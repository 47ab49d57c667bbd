-- The faults of a spot case, from what is looked up.
use Rattle.std.proofs.Common.{◌≡◌, ◌≢◌, ℕ, ℤ, List, sym, ◌∙◌, subst, Some, None}
use Rattle.std.proofs.lemmas.Option.{none-some, same_Some}
use Rattle.lock_model.specs.Deck.{Deck}
use Rattle.refute_rules.specs.declared.choices.Choice.{Choice}
use Rattle.refute_rules.specs.Decided.{berth_in, x_in}
use Rattle.refute_rules.specs.Known.{host_of}
use Rattle.refute_rules.specs.SpotFaults.{IsInsideAlong, IsOutsideAlong, IsPastHost, AreApartAt, AreTouching}
use Rattle.place_refute.specs.SpotReads.{IsWithinHost, IsPast, IsAtPosition, HasNoPosition}

pub along_outside : (d : Deck) (case : List Choice) (i x : ℕ) → Some x ≡ x_in case i → (IsInsideAlong d i x → ⊥) → IsOutsideAlong d case i
along_outside d case i x e out = record { x = x; decided = sym e; outside = out }

pub along_inside : (d : Deck) (case : List Choice) (i x : ℕ) → Some x ≡ x_in case i → IsInsideAlong d i x → IsOutsideAlong d case i → ⊥
along_inside d case i x e inside out = out.outside (subst (IsInsideAlong d i) (same_Some x out.x (e ∙ out.decided)) inside)

pub along_open : (d : Deck) (case : List Choice) (i : ℕ) → None ≡ x_in case i → IsOutsideAlong d case i → ⊥
along_open d case i e out = none-some out.x (e ∙ out.decided)

pub past : (d : Deck) (case : List Choice) (i host x host_x : ℕ) → Some x ≡ x_in case i → Some host_x ≡ x_in case host → (IsWithinHost d i x host host_x → ⊥) → IsPast d case i host
past d case i host x host_x own other out = record { x = x; host_x = host_x; own = sym own; other = sym other; past = out }

pub past_host : (d : Deck) (case : List Choice) (i host : ℕ) → Some host ≡ host_of (berth_in case i) → IsPast d case i host → IsPastHost d case i
past_host d case i host e h = record { host = host; x = h.x; host_x = h.host_x; lies = sym e; own = h.own; other = h.other; past = h.past }

pub host_past : (d : Deck) (case : List Choice) (i host : ℕ) → Some host ≡ host_of (berth_in case i) → IsPastHost d case i → IsPast d case i host
host_past d case i host e h =
    subst (IsPast d case i) (sym (same_Some host h.host (e ∙ h.lies))) (record { x = h.x; host_x = h.host_x; own = h.own; other = h.other; past = h.past })

pub past_none : (d : Deck) (case : List Choice) (i : ℕ) → None ≡ host_of (berth_in case i) → IsPastHost d case i → ⊥
past_none d case i e h = none-some h.host (e ∙ h.lies)

pub touching : (d : Deck) (case : List Choice) (i j xi : ℕ) (yi : ℤ) (xj : ℕ) (yj : ℤ) → i ≢ j → IsAtPosition d case i xi yi → IsAtPosition d case j xj yj → (AreApartAt d i xi yi j xj yj → ⊥) → AreTouching d case i j
touching d case i j xi yi xj yj n p q touch = record { different = n; xi = xi; yi = yi; xj = xj; yj = yj; decided_i = p.decided; known_i = p.known; decided_j = q.decided; known_j = q.known; touching = touch }

pub touching_apart : (d : Deck) (case : List Choice) (i j xi : ℕ) (yi : ℤ) (xj : ℕ) (yj : ℤ) → IsAtPosition d case i xi yi → IsAtPosition d case j xj yj → AreApartAt d i xi yi j xj yj → AreTouching d case i j → ⊥
touching_apart d case i j xi yi xj yj p q apart h =
    let a = same_Some xi h.xi (sym p.decided ∙ h.decided_i) in
    let b = same_Some yi h.yi (sym p.known ∙ h.known_i) in
    let c = same_Some xj h.xj (sym q.decided ∙ h.decided_j) in
    let e = same_Some yj h.yj (sym q.known ∙ h.known_j) in
    h.touching (subst (λ u. AreApartAt d i u h.yi j h.xj h.yj) a (subst (λ u. AreApartAt d i xi u j h.xj h.yj) b (subst (λ u. AreApartAt d i xi yi j u h.yj) c (subst (λ u. AreApartAt d i xi yi j xj u) e apart))))

pub touching_first : (d : Deck) (case : List Choice) (i j : ℕ) → HasNoPosition d case i → AreTouching d case i j → ⊥
touching_first d case i j none h = none.none h.xi h.yi (record { decided = h.decided_i; known = h.known_i })

pub touching_second : (d : Deck) (case : List Choice) (i j : ℕ) → HasNoPosition d case j → AreTouching d case i j → ⊥
touching_second d case i j none h = none.none h.xj h.yj (record { decided = h.decided_j; known = h.known_j })

-- what `are_touching` goes by
pub ruleset of_touching = (touching, touching_apart, touching_first, touching_second)
