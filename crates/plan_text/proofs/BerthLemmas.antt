-- The ships that have a berth are no more than the berths.
use Rattle.std.proofs.Common.{◌≡◌, ℕ, zero, suc, ◌+◌, ◌<◌, ◌≤◌, ◌==◌, ◌∙◌, ◌||◌, Bool, true, false, cond, List, [], ◌∷◌, ◌++◌, length, filter, All, refl, sym, ap, subst, arith}
use Rattle.std.proofs.lemmas.Bool.{ne_eqb, eqb-true}
use Rattle.std.proofs.lemmas.List.{length-append}
use Rattle.std.proofs.lemmas.List.Elements.{All-filter, filter-append}
use Rattle.lock_model.specs.declared.limits.TheConstants.{MOST}
use Rattle.lock_rules.specs.Arrival.{numbers_from}
use Rattle.lock_rules.proofs.LineLemmas.{numbers-below, numbers_more}
use Rattle.plan_text.specs.declared.berth.Berth.{Berth}
use Rattle.plan_text.specs.Berths.{has_berth}

none_pass : (xs : List ℕ) → length (filter (λ s. false) xs) ≤ 0
none_pass [] = omega arith
none_pass (x ∷ xs) = none_pass xs

either_passes : (p q : ℕ → Bool) (xs : List ℕ) → length (filter (λ s. p s || q s) xs) ≤ length (filter p xs) + length (filter q xs)
either_passes p q [] = omega arith
either_passes p q (x ∷ xs) =
    let rest = either_passes p q xs in
    let more : (b c : Bool) → length (cond (b || c) (x ∷ filter (λ s. p s || q s) xs) (filter (λ s. p s || q s) xs)) ≤ length (cond b (x ∷ filter p xs) (filter p xs)) + length (cond c (x ∷ filter q xs) (filter q xs)) = by_tests (omega (arith, rest)) in
    more (p x) (q x)
  where
    by_tests : length (filter (λ s. p s || q s) xs) ≤ length (filter p xs) + length (filter q xs) → (b c : Bool) → length (cond (b || c) (x ∷ filter (λ s. p s || q s) xs) (filter (λ s. p s || q s) xs)) ≤ length (cond b (x ∷ filter p xs) (filter p xs)) + length (cond c (x ∷ filter q xs) (filter q xs))
    by_tests rest true true = omega (arith, rest)
    by_tests rest true false = omega (arith, rest)
    by_tests rest false true = omega (arith, rest)
    by_tests rest false false = omega (arith, rest)

beyond : (a low n : ℕ) → a < low → length (filter (λ s. a == s) (numbers_from low n)) ≤ 0
beyond a low zero under = omega arith
beyond a low (suc n) under =
    let other : (a == low) ≡ false = ne_eqb a low (λ same. absurd (omega (arith, same, under))) in
    subst (λ b. length (cond b (low ∷ filter (λ s. a == s) (numbers_from (suc low) n)) (filter (λ s. a == s) (numbers_from (suc low) n))) ≤ 0) (sym other) (beyond a (suc low) n (omega (arith, under)))

only_one : (a low n : ℕ) → length (filter (λ s. a == s) (numbers_from low n)) ≤ 1
only_one a low zero = omega arith
only_one a low (suc n) = by_test (a == low) refl (only_one a (suc low) n)
  where
    by_test : (b : Bool) → (a == low) ≡ b → length (filter (λ s. a == s) (numbers_from (suc low) n)) ≤ 1 → length (cond b (low ∷ filter (λ s. a == s) (numbers_from (suc low) n)) (filter (λ s. a == s) (numbers_from (suc low) n))) ≤ 1
    by_test true is rest = let same = eqb-true a low is in omega (arith, beyond a (suc low) n (omega (arith, same)))
    by_test false is rest = rest

pub few_berthed : (bs : List Berth) (low n : ℕ) → length (filter (λ s. has_berth s bs) (numbers_from low n)) ≤ length bs
few_berthed [] low n = none_pass (numbers_from low n)
few_berthed (b ∷ bs) low n =
    let either = either_passes (λ s. b.ship == s) (λ s. has_berth s bs) (numbers_from low n) in
    let one = only_one b.ship low n in
    let rest = few_berthed bs low n in
    omega (arith, either, one, rest)

-- one ship more
pub next_ships : (bs : List Berth) (ships new : List ℕ) (n : ℕ) → ships ≡ filter (λ s. has_berth s bs) (numbers_from 0 n) → new ≡ ships ++ filter (λ s. has_berth s bs) (n ∷ []) → new ≡ filter (λ s. has_berth s bs) (numbers_from 0 (n + 1))
next_ships bs ships new n is more =
    let has : ℕ → Bool = λ s. has_berth s bs in
    let here : 0 + n ≡ n = omega arith in
    more ∙ ap (λ xs. xs ++ filter has (n ∷ [])) is ∙ sym (filter-append has (numbers_from 0 n) (n ∷ [])) ∙ ap (λ k. filter has (numbers_from 0 n ++ k ∷ [])) (sym here) ∙ ap (filter has) (sym (numbers_more 0 n))

-- there is room for a ship that has a berth
pub room_for_ship : (bs : List Berth) (ships : List ℕ) (n : ℕ) → length bs ≤ MOST → ships ≡ filter (λ s. has_berth s bs) (numbers_from 0 n) → has_berth n bs ≡ true → length ships < MOST
room_for_ship bs ships n few is berthed =
    let one_more : filter (λ s. has_berth s bs) (numbers_from 0 (n + 1)) ≡ ships ++ n ∷ [] =
    sym (next_ships bs ships (ships ++ filter (λ s. has_berth s bs) (n ∷ [])) n is refl) ∙ ap (λ b. ships ++ cond b (n ∷ []) []) berthed in
    let size = length-append ships (n ∷ []) in
    let fits = few_berthed bs 0 (n + 1) in
    let long = ap length one_more in
    omega (arith, few, size, fits, long)

pub ships_below : (bs : List Berth) (ships : List ℕ) (n : ℕ) → ships ≡ filter (λ s. has_berth s bs) (numbers_from 0 n) → All (λ s. s < n) ships
ships_below bs ships n is = subst (All (λ s. s < n)) (sym is) (All-filter (λ s. has_berth s bs) (λ s. s < n) (numbers_from 0 n) (λ k d inside. let low = numbers-below 0 n k d inside in omega (arith, low)))
