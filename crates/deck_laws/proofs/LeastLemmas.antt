-- The least length, found from the front.
use Rattle.std.proofs.Common.{◌≡◌, ℕ, zero, suc, ◌+◌, ◌<◌, ◌≤◌, List, [], ◌∷◌, length, map, min, drop, refl, subst, arith, slice_index_or}
use Rattle.lock_model.specs.Deck.{no_size}
use Rattle.lock_model.specs.declared.deck.Size.{Size}
use Rattle.lock_rules.specs.Bound.{least_number}

-- the least of a length and those of the sizes
abbrev pub least_from : ℕ → List Size → ℕ
least_from m [] = m
least_from m (s ∷ ss) = least_from (min m s.length) ss

abbrev least_of : List Size → ℕ
least_of ss = least_number (map (λ (s : Size). s.length) ss)

least_from-min : (m : ℕ) (s : Size) (ss : List Size) → least_from m (s ∷ ss) ≡ min m (least_of (s ∷ ss))
least_from-min m s [] = refl
least_from-min m s (t ∷ ts) = let rest = least_from-min (min m s.length) t ts in omega (arith, rest)

pub least_begun : (sizes : List Size) (m : ℕ) → 1 ≤ length sizes → m ≡ (slice_index_or sizes 0 no_size).length → least_from m sizes ≡ least_number (map (λ (s : Size). s.length) sizes)
least_begun [] m some is = absurd (omega (arith, some))
least_begun (s ∷ []) m some is = omega (arith, is)
least_begun (s ∷ t ∷ ts) m some is = let whole = least_from-min m s (t ∷ ts) in omega (arith, whole, is)

pub least_more : (sizes : List Size) (k m n : ℕ) → k < length sizes → least_from m (drop k sizes) ≡ n → least_from (min m (slice_index_or sizes k no_size).length) (drop (k + 1) sizes) ≡ n
least_more [] k m n h e = absurd (omega (arith, h))
least_more (s ∷ ss) zero m n h e = e
least_more (s ∷ ss) (suc k) m n h e =
    let rest = least_more ss k m n (omega (arith, h)) e in
    let same : suc (k + 1) ≡ suc k + 1 = omega arith in
    subst (λ j. least_from (min m (slice_index_or ss k no_size).length) (drop j (s ∷ ss)) ≡ n) same rest

pub least_done : (sizes : List Size) (k m n : ℕ) → length sizes ≤ k → least_from m (drop k sizes) ≡ n → m ≡ n
least_done [] zero m n h e = e
least_done [] (suc k) m n h e = e
least_done (s ∷ ss) zero m n h e = absurd (omega (arith, h))
least_done (s ∷ ss) (suc k) m n h e = least_done ss k m n (omega (arith, h)) e
