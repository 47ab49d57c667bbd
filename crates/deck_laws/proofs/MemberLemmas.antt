-- Where the elements of a list come from, and rising lists with the same elements.
use Rattle.std.proofs.Common.{◌≡◌, ℕ, zero, suc, ◌≤◌, List, [], ◌∷◌, filter, cond, Bool, true, false, ◌⊎◌, inl, inr, refl, sym, subst, arith, nat_eq, nat_lt}
use Rattle.std.proofs.lemmas.Bool.Decides.{eqb_tells}
use Rattle.lock_model.specs.Ships.{RisesFrom}
use Rattle.lock_rules.specs.Arrival.{numbers_from}
use Rattle.refute_rules.specs.Values.{put_number, rising_of}
use Rattle.lock_rules.proofs.TreeLemmas.{RisesFrom-less}
use Rattle.list_laws.specs.Among.{IsAmong}
use Rattle.lock_rules.proofs.AmongLemmas.{rises-past}
use Rattle.deck_laws.proofs.ThinLemmas.{ltb_tells}

-- ---- one number put into rising numbers
pub among-put : (t : ℕ) (vs : List ℕ) (u : ℕ) → IsAmong (put_number t vs) u → (t ≡ u) ⊎ IsAmong vs u
among-put t [] u (inl e) = inl e
among-put t [] u (inr h) = absurd h
among-put t (v ∷ vs) u h = go (λ g. among-put t vs u g) (nat_lt t v) (nat_eq t v) h
  where
    deeper : (t ≡ u) ⊎ IsAmong vs u → (t ≡ u) ⊎ IsAmong (v ∷ vs) u
    deeper (inl e) = inl e
    deeper (inr g) = inr (inr g)

    go : (IsAmong (put_number t vs) u → (t ≡ u) ⊎ IsAmong vs u) → (less same : Bool) → IsAmong (cond less (t ∷ v ∷ vs) (cond same (v ∷ vs) (v ∷ put_number t vs))) u → (t ≡ u) ⊎ IsAmong (v ∷ vs) u
    go rest true same (inl e) = inl e
    go rest true same (inr g) = inr g
    go rest false true g = inr g
    go rest false false (inl e) = inr (inl e)
    go rest false false (inr g) = deeper (rest g)

pub among-rising : (ts : List ℕ) (u : ℕ) → IsAmong (rising_of ts) u → IsAmong ts u
among-rising [] u h = h
among-rising (t ∷ ts) u h = elim (among-put t (rising_of ts) u h) [ inl e ↦ inl e | inr g ↦ inr (among-rising ts u g) ]

-- ---- rising
put-rises : (low t : ℕ) (vs : List ℕ) → low ≤ t → RisesFrom low vs → RisesFrom low (put_number t vs)
put-rises low t [] h rises = (h, tt)
put-rises low t (v ∷ vs) h rises =
    let first = rises.0 in
    elim (ltb_tells t v) [
      | inl y ↦ subst (λ b. RisesFrom low (cond b (t ∷ v ∷ vs) (cond (nat_eq t v) (v ∷ vs) (v ∷ put_number t vs)))) (sym y.0) (h, (y.1, rises.1))
      | inr n ↦ subst (λ b. RisesFrom low (cond b (t ∷ v ∷ vs) (cond (nat_eq t v) (v ∷ vs) (v ∷ put_number t vs)))) (sym n.0)
          (elim (eqb_tells t v) [
            | inl y ↦ subst (λ b. RisesFrom low (cond b (v ∷ vs) (v ∷ put_number t vs))) (sym y.0) rises
            | inr d ↦ subst (λ b. RisesFrom low (cond b (v ∷ vs) (v ∷ put_number t vs))) (sym d.0) (first, put-rises (suc v) t vs (let past = n.1 in let differ = d.1 in omega (arith, past, differ)) rises.1)
          ])
    ]

pub rising-rises : (ts : List ℕ) → RisesFrom 0 (rising_of ts)
rising-rises [] = tt
rising-rises (t ∷ ts) = put-rises 0 t (rising_of ts) (omega arith) (rising-rises ts)

pub filter-rises : (p : ℕ → Bool) (low n : ℕ) → RisesFrom low (filter p (numbers_from low n))
filter-rises p low zero = tt
filter-rises p low (suc n) =
    let rest = filter-rises p (suc low) n in
    elim (p low) as (λ b. RisesFrom low (cond b (low ∷ filter p (numbers_from (suc low) n)) (filter p (numbers_from (suc low) n)))) [
      | true ↦ (omega arith, rest)
      | false ↦ RisesFrom-less low (suc low) (filter p (numbers_from (suc low) n)) (omega arith) rest
    ]

-- rising lists with the same elements are the same
pub same-rising : (low : ℕ) (xs ys : List ℕ) → RisesFrom low xs → RisesFrom low ys → ((u : ℕ) → IsAmong xs u → IsAmong ys u) → ((u : ℕ) → IsAmong ys u → IsAmong xs u) → xs ≡ ys
same-rising low [] [] rx ry to from = refl
same-rising low [] (y ∷ ys) rx ry to from = absurd (from y (inl refl))
same-rising low (x ∷ xs) [] rx ry to from = absurd (to x (inl refl))
same-rising low (x ∷ xs) (y ∷ ys) rx ry to from =
    let first : x ≡ y = heads (to x (inl refl)) (from y (inl refl)) in
    let rest : xs ≡ ys = same-rising (suc x) xs ys rx.1 (subst (λ k. RisesFrom (suc k) ys) (sym first) ry.1) (λ u h. inner first u h (to u (inr h))) (λ u h. outer first u h (from u (inr h))) in
    cc
  where
    heads : IsAmong (y ∷ ys) x → IsAmong (x ∷ xs) y → x ≡ y
    heads (inl e) h = sym e
    heads (inr g) (inl e) = e
    heads (inr g) (inr h) =
        let a = rises-past (suc y) ys x ry.1 g in
        let b = rises-past (suc x) xs y rx.1 h in
        absurd (omega (arith, a, b))

    inner : x ≡ y → (u : ℕ) → IsAmong xs u → IsAmong (y ∷ ys) u → IsAmong ys u
    inner first u h (inl e) = let a = rises-past (suc x) xs u rx.1 h in absurd (omega (arith, a, e, first))
    inner first u h (inr g) = g

    outer : x ≡ y → (u : ℕ) → IsAmong ys u → IsAmong (x ∷ xs) u → IsAmong xs u
    outer first u h (inl e) = let a = rises-past (suc y) ys u ry.1 h in absurd (omega (arith, a, e, first))
    outer first u h (inr g) = g
