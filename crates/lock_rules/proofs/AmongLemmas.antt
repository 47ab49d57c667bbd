-- Where an element of a list comes from, and how often a number stands in one.
use Rattle.std.proofs.Common.{◌≡◌, ℕ, zero, suc, ◌+◌, ◌<◌, ◌≤◌, List, [], ◌∷◌, ◌++◌, filter, flat_map, cond, Bool, true, false, ◌⊎◌, inl, inr, refl, sym, ap, ◌∙◌, arith, Contains}
use Rattle.std.proofs.lemmas.Bool.Decides.{eqb_tells}
use Rattle.std.proofs.lemmas.List.Elements.{All-contains}
use Rattle.lock_model.specs.Ships.{RisesFrom}
use Rattle.lock_rules.specs.Plan.{times_in}
use Rattle.lock_rules.specs.Arrival.{numbers_from}
use Rattle.list_laws.specs.Among.{IsAmong}
use Rattle.lock_rules.proofs.TreeLemmas.{contains-among, times_in-miss}
use Rattle.lock_rules.proofs.SplitLemmas.{times_in-at}

pub among-append : {X : Type 0} (xs ys : List X) (x : X) → IsAmong (xs ++ ys) x → IsAmong xs x ⊎ IsAmong ys x
among-append [] ys x h = inr h
among-append (z ∷ xs) ys x (inl e) = inl (inl e)
among-append (z ∷ xs) ys x (inr h) = elim (among-append xs ys x h) [ inl g ↦ inl (inr g) | inr g ↦ inr g ]

pub among-filter : {X : Type 0} (p : X → Bool) (xs : List X) (x : X) → IsAmong (filter p xs) x → IsAmong xs x × (p x ≡ true)
among-filter p [] x h = absurd h
among-filter p (z ∷ xs) x h = go (λ g. among-filter p xs x g) (p z) refl h
  where
    deeper : IsAmong xs x × (p x ≡ true) → IsAmong (z ∷ xs) x × (p x ≡ true)
    deeper g = (inr g.0, g.1)

    go : (IsAmong (filter p xs) x → IsAmong xs x × (p x ≡ true)) → (b : Bool) → p z ≡ b → IsAmong (cond b (z ∷ filter p xs) (filter p xs)) x → IsAmong (z ∷ xs) x × (p x ≡ true)
    go rest true e (inl same) = (inl same, ap p (sym same) ∙ e)
    go rest true e (inr g) = deeper (rest g)
    go rest false e g = deeper (rest g)

pub among-flat_map : {X Y : Type 0} (f : X → List Y) (xs : List X) (y : Y) → IsAmong (flat_map f xs) y → (x : X) × IsAmong xs x × IsAmong (f x) y
among-flat_map f [] y h = absurd h
among-flat_map f (z ∷ xs) y h =
    elim (among-append (f z) (flat_map f xs) y h) [
      | inl here ↦ (z, inl refl, here)
      | inr there ↦ (let rest = among-flat_map f xs y there in (rest.0, inr rest.1, rest.2))
    ]

pub among-numbers : (low n k : ℕ) → IsAmong (numbers_from low n) k → (low ≤ k) × (k < low + n)
among-numbers low zero k h = absurd h
among-numbers low (suc n) k (inl e) = (omega (arith, e), omega (arith, e))
among-numbers low (suc n) k (inr h) = let rest = among-numbers (suc low) n k h in (omega (arith, rest), omega (arith, rest))

pub rises-past : (low : ℕ) (xs : List ℕ) (u : ℕ) → RisesFrom low xs → IsAmong xs u → low ≤ u
rises-past low [] u rises h = absurd h
rises-past low (x ∷ xs) u rises (inl e) = let first = rises.0 in omega (arith, first, e)
rises-past low (x ∷ xs) u rises (inr h) = let rest = rises-past (suc x) xs u rises.1 h in let first = rises.0 in omega (arith, first, rest)

-- ---- a number that stands in a list
pub among-times_in : (xs : List ℕ) (x : ℕ) → 1 ≤ times_in xs x → IsAmong xs x
among-times_in [] x h = absurd (omega (arith, h))
among-times_in (y ∷ ys) x h =
    elim (eqb_tells y x) [
      | inl same ↦ inl same.1
      | inr other ↦ inr (among-times_in ys x (omega (arith, h, times_in-miss x y ys other.0)))
    ]

pub times-contains : (xs : List ℕ) (s : ℕ) → 1 ≤ times_in xs s → Contains xs s
times-contains xs s some = contains-among xs s (among-times_in xs s some)

pub contains-times : (xs : List ℕ) (s : ℕ) → Contains xs s → 1 ≤ times_in xs s
contains-times xs s held = All-contains (λ s. 1 ≤ times_in xs s) xs s (times_in-at xs) held
