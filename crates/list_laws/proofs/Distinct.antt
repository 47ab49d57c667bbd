-- Lists of distinct numbers.
use Rattle.std.proofs.Common.{◌≡◌, ◌≢◌, ℕ, ◌<◌, ◌≤◌, List, [], ◌∷◌, length, ◌||◌, ◌⊎◌, true, false, inl, inr, sym, subst, arith, eqb, true≢false}
use Rattle.std.proofs.lemmas.Bool.Decides.{eqb_tells}
use Rattle.std.proofs.lemmas.List.Elements.{All-from_recursion}
use Rattle.std.proofs.lemmas.List.Kept.{AllPairs-cons}
use Rattle.std.proofs.lemmas.Map.Steps.{length-le_from_distinct_below}
use Rattle.std.specs.List.{AllByRecursion, AllPairs, IsDistinct, list_any}
use Rattle.list_laws.specs.Among.{IsAmong, AreDistinct}

all-differ : (x : ℕ) (xs : List ℕ) → (IsAmong xs x → ⊥) → AllByRecursion (λ y. x ≢ y) xs
all-differ x [] n = tt
all-differ x (y ∷ xs) n = ((λ e. n (inl (sym e))), all-differ x xs (λ g. n (inr g)))

pub pairs-differ : (xs : List ℕ) → AreDistinct xs → AllPairs (λ j k. j ≢ k) xs
pairs-differ [] h = λ i j d lt within. absurd (omega arith)
pairs-differ (x ∷ xs) h = AllPairs-cons (λ j k. j ≢ k) x xs (All-from_recursion (λ y. x ≢ y) xs (all-differ x xs h.0)) (pairs-differ xs h.1)

pub among-or_not : (xs : List ℕ) (i : ℕ) → IsAmong xs i ⊎ (IsAmong xs i → ⊥)
among-or_not [] i = inr (λ h. h)
among-or_not (x ∷ xs) i =
    elim (eqb_tells x i) [
      | inl y ↦ inl (inl y.1)
      | inr n ↦ elim (among-or_not xs i) [ inl h ↦ inl (inr h) | inr h ↦ inr (neither x xs i n.1 h) ]
    ]
  where
    neither : (x : ℕ) (xs : List ℕ) (i : ℕ) → x ≢ i → (IsAmong xs i → ⊥) → IsAmong (x ∷ xs) i → ⊥
    neither x xs i n h (inl e) = n e
    neither x xs i n h (inr g) = h g

-- distinct numbers below n are few
any-among : (x : ℕ) (xs : List ℕ) → list_any (eqb x) xs ≡ true → IsAmong xs x
any-among x [] h = absurd (true≢false (sym h))
any-among x (y ∷ ys) h =
    elim (eqb_tells x y) [
      | inl e ↦ inl (sym e.1)
      | inr n ↦ inr (any-among x ys (subst (λ b. (b || list_any (eqb x) ys) ≡ true) n.0 h))
    ]

apart : (x : ℕ) (xs : List ℕ) → (IsAmong xs x → ⊥) → AllByRecursion (λ y. eqb x y ≡ false) xs
apart x [] n = tt
apart x (y ∷ ys) n = (elim (eqb_tells x y) [ inl e ↦ absurd (n (inl (sym e.1))) | inr d ↦ d.0 ], apart x ys (λ g. n (inr g)))

by-test : (xs : List ℕ) → AreDistinct xs → IsDistinct eqb xs
unfolding IsDistinct
by-test [] h = tt
by-test (x ∷ xs) h = (apart x xs h.0, by-test xs h.1)

among-below : (n : ℕ) (xs : List ℕ) → AllByRecursion (λ x. x < n) xs → (x : ℕ) → IsAmong xs x → x < n
among-below n [] a x h = absurd h
among-below n (y ∷ ys) a x (inl e) = subst (λ z. z < n) e a.0
among-below n (y ∷ ys) a x (inr h) = among-below n ys a.1 x h

pub few-distinct : (n : ℕ) (xs : List ℕ) → AreDistinct xs → AllByRecursion (λ x. x < n) xs → length xs ≤ n
few-distinct n xs distinct below = length-le_from_distinct_below xs n (by-test xs distinct) (λ x any. among-below n xs below x (any-among x xs any))
