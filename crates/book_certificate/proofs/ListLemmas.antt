-- What is among the items of a list, and how many different numbers a list has.
use Rattle.std.proofs.Common.{◌≡◌, ◌≢◌, ℕ, zero, suc, ◌+◌, ◌<◌, ◌≤◌, List, [], ◌∷◌, inl, inr, length, refl, sym, ap, ◌∙◌, subst, arith, All}
use Rattle.std.specs.List.{range_with_len}
use Rattle.std.proofs.lemmas.List.Elements.{All-cons, All-nil}
use Rattle.list_laws.specs.Among.{IsAmong}

pub range-among : (first n k : ℕ) → k < n → IsAmong (range_with_len first n) (first + k)
range-among first zero k known = absurd (omega (arith, known))
range-among first (suc n) zero known = inl (omega arith)
range-among first (suc n) (suc k) known =
    let next : first + 1 + k ≡ first + suc k = omega arith in
    inr (subst (λ m. IsAmong (range_with_len (first + 1) n) m) next (range-among (first + 1) n k (omega (arith, known))))

pub among-range : (first n m : ℕ) → IsAmong (range_with_len first n) m → (first ≤ m) × (m < first + n)
among-range first zero m h = absurd h
among-range first (suc n) m (inl e) = (omega (arith, e), omega (arith, e))
among-range first (suc n) m (inr h) = let rest = among-range (first + 1) n m h in (omega (arith, rest.0), omega (arith, rest.1))

-- what holds of each item holds of all
pub all-among : {X : Type 0} (P : X → Type 0) (xs : List X) → ((x : X) → IsAmong xs x → P x) → All P xs
all-among P [] each = All-nil P
all-among P (x ∷ xs) each = All-cons P x xs (each x (inl refl)) (all-among P xs (λ y h. each y (inr h)))

-- the list without one item
without : {X : Type 0} (xs : List X) (x : X) → IsAmong xs x → List X
without [] x h = absurd h
without (y ∷ ys) x (inl e) = ys
without (y ∷ ys) x (inr h) = y ∷ without ys x h

without-shorter : {X : Type 0} (xs : List X) (x : X) (h : IsAmong xs x) → length xs ≡ suc (length (without xs x h))
unfolding without
without-shorter [] x h = absurd h
without-shorter (y ∷ ys) x (inl e) = refl
without-shorter (y ∷ ys) x (inr h) = ap suc (without-shorter ys x h)

without-other : {X : Type 0} (xs : List X) (x y : X) (h : IsAmong xs x) → IsAmong xs y → y ≢ x → IsAmong (without xs x h) y
unfolding without
without-other [] x y h g other = absurd h
without-other (z ∷ zs) x y (inl e) (inl f) other = absurd (other (sym f ∙ e))
without-other (z ∷ zs) x y (inl e) (inr g) other = g
without-other (z ∷ zs) x y (inr h) (inl f) other = inl f
without-other (z ∷ zs) x y (inr h) (inr g) other = inr (without-other zs x y h g other)

-- a list that has all numbers below n is no shorter than n
pub all-below : (n : ℕ) (xs : List ℕ) → ((k : ℕ) → k < n → IsAmong xs k) → n ≤ length xs
all-below zero xs each = omega arith
all-below (suc n) xs each =
    let last = each n (omega arith) in
    let rest = all-below n (without xs n last) (λ k low. without-other xs n k last (each k (omega (arith, low))) (λ e. absurd (omega (arith, low, e)))) in
    let shorter = without-shorter xs n last in
    omega (arith, rest, shorter)
