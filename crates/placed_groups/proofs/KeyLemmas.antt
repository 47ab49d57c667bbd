-- Putting ships into their places.
use Rattle.std.proofs.Common.{◌≡◌, ℕ, zero, suc, ◌+◌, ◌-◌, ◌<◌, ◌≤◌, List, [], ◌∷◌, ◌++◌, length, take, replicate, slice_index_or, slice_set, refl, ap, ◌∙◌, arith}
use Rattle.lock_model.specs.declared.limits.TheConstants.{MOST}

fill : (ss : List ℕ) (i m d : ℕ) → i < length ss → slice_set (take i ss ++ replicate (suc m) 255) i (slice_index_or ss i d) ≡ take (suc i) ss ++ replicate m 255
fill [] i m d here = absurd (omega (arith, here))
fill (s ∷ ss) zero m d here = refl
fill (s ∷ ss) (suc i) m d here = ap (λ xs. s ∷ xs) (fill ss i m d (omega (arith, here)))

-- one ship more in its place
pub place_next : (ss : List ℕ) (i d : ℕ) → i < length ss → length ss ≤ MOST → slice_set (take i ss ++ replicate (MOST - i) 255) i (slice_index_or ss i d) ≡ take (i + 1) ss ++ replicate (MOST - (i + 1)) 255
place_next ss i d here few =
    let left : MOST - i ≡ suc (MOST - (i + 1)) = omega (arith, here, few) in
    let next : suc i ≡ i + 1 = omega arith in
    ap (λ n. slice_set (take i ss ++ replicate n 255) i (slice_index_or ss i d)) left
    ∙ fill ss i (MOST - (i + 1)) d here
    ∙ ap (λ n. take n ss ++ replicate (MOST - (i + 1)) 255) next

pub take_all : (ss : List ℕ) (n : ℕ) → length ss ≤ n → take n ss ≡ ss
take_all [] zero all = refl
take_all [] (suc n) all = refl
take_all (s ∷ ss) zero all = absurd (omega (arith, all))
take_all (s ∷ ss) (suc n) all = ap (λ xs. s ∷ xs) (take_all ss n (omega (arith, all)))
