-- The berths of a ship by their numbers.
use Rattle.std.proofs.Common.{◌≡◌, ◌≢◌, ◌⊎◌, ℕ, zero, suc, ◌+◌, ◌-◌, ◌*◌, ◌/◌, ◌%◌, ◌<◌, ◌≤◌, List, [], ◌∷◌, length, filter, flat_map, cond, true, false, not, nat_eq, nat_lt, slice_index_or, inl, inr, refl, sym, ap, ◌∙◌, arith}
use Rattle.std.proofs.lemmas.Bool.Decides.{eqb_tells, leb_tells}
use Rattle.lock_model.specs.declared.placement.Rank.{Rank}
use Rattle.lock_model.specs.declared.placement.Rank.TheVariants.{Left, Right}
use Rattle.lock_model.specs.declared.placement.Moor.TheVariants.{Quay, Ship}
use Rattle.lock_rules.specs.Arrival.{numbers_from}
use Rattle.lock_rules.proofs.LineLemmas.{length-numbers, numbers-at}
use Rattle.refute_rules.specs.Values.{others}
use Rattle.refute_rules.specs.declared.choices.Berth.{Berth}
use Rattle.refute_rules.specs.Choices.{berths_of}
use Rattle.deck_cases.specs.Berths.{first_berth}

-- ---- numbers without one of them
abbrev without : ℕ → List ℕ → List ℕ
without i ks = filter (λ k. not (nat_eq k i)) ks

without-hit : (i k : ℕ) (ks : List ℕ) → k ≡ i → without i (k ∷ ks) ≡ without i ks
without-hit i k ks e = elim (eqb_tells k i) [ inl y ↦ ap (λ b. cond (not b) (k ∷ without i ks) (without i ks)) y.0 | inr n ↦ absurd (n.1 e) ]

without-miss : (i k : ℕ) (ks : List ℕ) → (k ≡ i → ⊥) → without i (k ∷ ks) ≡ k ∷ without i ks
without-miss i k ks d = elim (eqb_tells k i) [ inl y ↦ absurd (d y.1) | inr n ↦ ap (λ b. cond (not b) (k ∷ without i ks) (without i ks)) n.0 ]

without-above : (i low n : ℕ) → i < low → without i (numbers_from low n) ≡ numbers_from low n
without-above i low zero h = refl
without-above i low (suc n) h = without-miss i low (numbers_from (suc low) n) (λ e. omega (arith, h, e)) ∙ ap (λ ks. low ∷ ks) (without-above i (suc low) n (omega (arith, h)))

without-length : (i low n : ℕ) → low ≤ i → i < low + n → length (without i (numbers_from low n)) + 1 ≡ n
without-length i low zero a b = absurd (omega (arith, a, b))
without-length i low (suc n) a b =
    elim (eqb_tells low i) [
      | inl y ↦
          let e = ap length (without-hit i low (numbers_from (suc low) n) y.1 ∙ without-above i (suc low) n (let same = y.1 in omega (arith, same))) in
          let l = length-numbers (suc low) n in
          omega (arith, e, l)
      | inr d ↦
          let e = ap length (without-miss i low (numbers_from (suc low) n) d.1) in
          let rest = without-length i (suc low) n (let differ = d.1 in omega (arith, a, differ)) (omega (arith, b)) in
          omega (arith, e, rest)
    ]

other-below : (i low n k : ℕ) → i < low + n → low + k < i → slice_index_or (without i (numbers_from low n)) k 0 ≡ low + k
other-below i low zero k b h = absurd (omega (arith, b, h))
other-below i low (suc n) zero b h = ap (λ ks. slice_index_or ks 0 0) (without-miss i low (numbers_from (suc low) n) (λ e. omega (arith, h, e))) ∙ omega arith
other-below i low (suc n) (suc k) b h =
    ap (λ ks. slice_index_or ks (suc k) 0) (without-miss i low (numbers_from (suc low) n) (λ e. omega (arith, h, e)))
    ∙ (let rest = other-below i (suc low) n k (omega (arith, b)) (omega (arith, h)) in omega (arith, rest))

other-above : (i low n k : ℕ) → low ≤ i → i ≤ low + k → suc k < n → slice_index_or (without i (numbers_from low n)) k 0 ≡ suc (low + k)
other-above i low zero k a h l = absurd (omega (arith, l))
other-above i low (suc n) zero a h l =
    let same : low ≡ i = omega (arith, a, h) in
    ap (λ ks. slice_index_or ks 0 0) (without-hit i low (numbers_from (suc low) n) same ∙ without-above i (suc low) n (omega (arith, same)))
    ∙ (let at = numbers-at (suc low) n 0 0 (omega (arith, l)) in omega (arith, at))
other-above i low (suc n) (suc k) a h l =
    elim (eqb_tells low i) [
      | inl y ↦
          ap (λ ks. slice_index_or ks (suc k) 0) (without-hit i low (numbers_from (suc low) n) y.1 ∙ without-above i (suc low) n (let same = y.1 in omega (arith, same)))
          ∙ (let at = numbers-at (suc low) n (suc k) 0 (omega (arith, l)) in omega (arith, at))
      | inr d ↦
          ap (λ ks. slice_index_or ks (suc k) 0) (without-miss i low (numbers_from (suc low) n) d.1)
          ∙ (let rest = other-above i (suc low) n k (let differ = d.1 in omega (arith, a, differ)) (omega (arith, h)) (omega (arith, l)) in omega (arith, rest))
    ]

-- the other ship of a number
pub other-at : (n i k : ℕ) → i < n → suc k < n → slice_index_or (others n i) k 0 ≡ cond (nat_lt k i) k (k + 1)
other-at n i k h l =
    elim (leb_tells (suc k) i) [
      | inl y ↦ other-below i 0 n k (omega (arith, h)) (let less = y.1 in omega (arith, less)) ∙ (omega arith ∙ ap (λ b. cond b k (k + 1)) (sym y.0))
      | inr m ↦ other-above i 0 n k (omega arith) (let more = m.1 in omega (arith, more)) l ∙ (omega arith ∙ ap (λ b. cond b k (k + 1)) (sym m.0))
    ]

pub others-length : (n i : ℕ) → i < n → length (others n i) + 1 ≡ n
others-length n i h = without-length i 0 n (omega arith) (omega (arith, h))

-- ---- two for each
module _ {X Y : Type 0} (f g : X → Y) where
  abbrev both : List X → List Y
  both xs = flat_map (λ x. f x ∷ g x ∷ []) xs

  both-length : (xs : List X) → length (both xs) ≡ 2 * length xs
  both-length [] = refl
  both-length (x ∷ xs) = let rest = both-length xs in omega (arith, rest)

  both-first : (xs : List X) (k v : ℕ) (d : X) (e : Y) → v ≡ 2 * k → k < length xs → slice_index_or (both xs) v e ≡ f (slice_index_or xs k d)
  both-first [] k v d e is h = absurd (omega (arith, h))
  both-first (x ∷ xs) zero zero d e is h = refl
  both-first (x ∷ xs) zero (suc v) d e is h = absurd (omega (arith, is))
  both-first (x ∷ xs) (suc k) zero d e is h = absurd (omega (arith, is))
  both-first (x ∷ xs) (suc k) (suc zero) d e is h = absurd (omega (arith, is))
  both-first (x ∷ xs) (suc k) (suc (suc v)) d e is h = both-first xs k v d e (omega (arith, is)) (omega (arith, h))

  both-second : (xs : List X) (k v : ℕ) (d : X) (e : Y) → v ≡ 1 + 2 * k → k < length xs → slice_index_or (both xs) v e ≡ g (slice_index_or xs k d)
  both-second [] k v d e is h = absurd (omega (arith, h))
  both-second (x ∷ xs) zero zero d e is h = absurd (omega (arith, is))
  both-second (x ∷ xs) zero (suc zero) d e is h = refl
  both-second (x ∷ xs) zero (suc (suc v)) d e is h = absurd (omega (arith, is))
  both-second (x ∷ xs) (suc k) zero d e is h = absurd (omega (arith, is))
  both-second (x ∷ xs) (suc k) (suc zero) d e is h = absurd (omega (arith, is))
  both-second (x ∷ xs) (suc k) (suc (suc v)) d e is h = both-second xs k v d e (omega (arith, is)) (omega (arith, h))

-- ---- the berths
abbrev left_at : ℕ → Berth
left_at k = record { rank = Left; moor = Ship k }

abbrev right_at : ℕ → Berth
right_at k = record { rank = Right; moor = Ship k }

pub berths-length : (n i : ℕ) → i < n → length (berths_of n i) ≡ 2 * n
berths-length n i h =
    let l = both-length left_at right_at (others n i) in
    let o = others-length n i h in
    omega (arith, l, o)

abbrev rank_by : ℕ → Rank
rank_by option = cond (nat_eq (option % 2) 0) Left Right

pub quay-at : (n i option : ℕ) → option < 2 → slice_index_or (berths_of n i) option first_berth ≡ record { rank = rank_by option; moor = Quay }
quay-at n i zero h = refl
quay-at n i (suc zero) h = refl
quay-at n i (suc (suc option)) h = absurd (omega (arith, h))

rank-left : (option : ℕ) → option % 2 ≡ 0 → rank_by option ≡ Left
rank-left option e = elim (eqb_tells (option % 2) 0) [ inl y ↦ ap (λ b. cond b Left Right) y.0 | inr n ↦ absurd (n.1 e) ]

rank-right : (option : ℕ) → option % 2 ≡ 1 → rank_by option ≡ Right
rank-right option e = elim (eqb_tells (option % 2) 0) [ inl y ↦ absurd (let even = y.1 in omega (arith, e, even)) | inr n ↦ ap (λ b. cond b Left Right) n.0 ]

pub host-at : (n i option : ℕ) → i < n → 2 ≤ option → option < 2 * n → slice_index_or (berths_of n i) option first_berth ≡ record { rank = rank_by option; moor = Ship (cond (nat_lt (option / 2 - 1) i) (option / 2 - 1) (option / 2 - 1 + 1)) }
host-at n i zero h two l = absurd (omega (arith, two))
host-at n i (suc zero) h two l = absurd (omega (arith, two))
host-at n i (suc (suc v)) h two l = way (eqb_tells ((suc (suc v)) % 2) 0)
  where
    k : ℕ
    k = suc (suc v) / 2 - 1

    known : suc k < n
    known = omega (arith, l)

    few : k < length (others n i)
    few = let o = others-length n i h in omega (arith, o, known)

    host : slice_index_or (others n i) k 0 ≡ cond (nat_lt k i) k (k + 1)
    host = other-at n i k h known

    way : ((nat_eq (suc (suc v) % 2) 0 ≡ true) × (suc (suc v) % 2 ≡ 0)) ⊎ ((nat_eq (suc (suc v) % 2) 0 ≡ false) × (suc (suc v) % 2 ≢ 0)) → slice_index_or (berths_of n i) (suc (suc v)) first_berth ≡ record { rank = rank_by (suc (suc v)); moor = Ship (cond (nat_lt k i) k (k + 1)) }
    way (inl y) =
        let even = y.1 in
        both-first left_at right_at (others n i) k v 0 first_berth (omega (arith, even)) few
        ∙ (ap left_at host ∙ ap (λ r. record { rank = r; moor = Ship (cond (nat_lt k i) k (k + 1)) }) (sym (rank-left (suc (suc v)) even)))
    way (inr m) =
        let odd : suc (suc v) % 2 ≡ 1 = let differ = m.1 in omega (arith, differ) in
        both-second left_at right_at (others n i) k v 0 first_berth (omega (arith, odd)) few
        ∙ (ap right_at host ∙ ap (λ r. record { rank = r; moor = Ship (cond (nat_lt k i) k (k + 1)) }) (sym (rank-right (suc (suc v)) odd)))
