-- Filtered lists, and numbers that rise by one.
use Rattle.std.proofs.Common.{◌≡◌, ℕ, zero, suc, ◌+◌, ◌<◌, ◌≤◌, List, [], ◌∷◌, ◌++◌, length, take, get_or, filter, cond, Bool, true, false, sym, ap, ◌∙◌, arith}
use Rattle.std.specs.List.Sorted.{IsStrictlyIncreasing}
use Rattle.std.proofs.lemmas.List.{append-nil}
use Rattle.std.proofs.lemmas.List.Elements.{filter-append}
use Rattle.std.proofs.lemmas.List.Kept.{IsStrictlyIncreasing-filter}
use Rattle.list_laws.proofs.Counts.{filter-shorter}
use Rattle.lock_rules.specs.Arrival.{numbers_from}
use Rattle.lock_rules.proofs.LineLemmas.{numbers_more, length-numbers}

pub taken_few : {X : Type 0} (xs : List X) (i : ℕ) → length (take i xs) ≤ i
taken_few xs zero = omega arith
taken_few [] (suc i) = omega arith
taken_few (x ∷ xs) (suc i) = omega (arith, taken_few xs i)

pub filtered_few : {X : Type 0} (p : X → Bool) (xs : List X) (i : ℕ) → length (filter p (take i xs)) ≤ i
filtered_few p xs i = omega (arith, filter-shorter p (take i xs), taken_few xs i)

-- one number more
module _ (p : ℕ → Bool) (n : ℕ) where
  numbers : filter p (numbers_from 0 (n + 1)) ≡ filter p (numbers_from 0 n) ++ cond (p n) (n ∷ []) []
  numbers =
      let here : 0 + n ≡ n = omega arith in
      ap (filter p) (numbers_more 0 n ∙ ap (λ k. numbers_from 0 n ++ k ∷ []) here) ∙ filter-append p (numbers_from 0 n) (n ∷ [])

  pub numbers_hit : p n ≡ true → filter p (numbers_from 0 n) ++ n ∷ [] ≡ filter p (numbers_from 0 (n + 1))
  numbers_hit hit = sym (numbers ∙ ap (λ b. filter p (numbers_from 0 n) ++ cond b (n ∷ []) []) hit)

  pub numbers_miss : p n ≡ false → filter p (numbers_from 0 n) ≡ filter p (numbers_from 0 (n + 1))
  numbers_miss miss = sym (numbers ∙ ap (λ b. filter p (numbers_from 0 n) ++ cond b (n ∷ []) []) miss ∙ append-nil (filter p (numbers_from 0 n)))

  pub numbers_few : length (filter p (numbers_from 0 n)) ≤ n
  numbers_few = omega (arith, filter-shorter p (numbers_from 0 n), length-numbers 0 n)

pub get_or-numbers : (low n k d : ℕ) → k < n → get_or (numbers_from low n) k d ≡ low + k
get_or-numbers low zero k d within = absurd (omega (arith, within))
get_or-numbers low (suc n) zero d within = omega arith
get_or-numbers low (suc n) (suc k) d within = omega (arith, get_or-numbers (suc low) n k d (omega (arith, within)))

pub numbers-rise : (low n : ℕ) → IsStrictlyIncreasing (numbers_from low n)
numbers-rise low n k within =
    let count = length-numbers low n in
    let here : k + 1 < n = omega (arith, within, count) in
    omega (arith, get_or-numbers low n k 0 (omega (arith, here)), get_or-numbers low n (k + 1) 0 here)

pub filtered-rise : (p : ℕ → Bool) (n : ℕ) → IsStrictlyIncreasing (filter p (numbers_from 0 n))
filtered-rise p n = IsStrictlyIncreasing-filter p (numbers_from 0 n) (numbers-rise 0 n)
