-- Some ships of a deck by number: their spans summed up, and each two of them.
use Rattle.std.proofs.Common.{◌≡◌, ℕ, zero, suc, ◌+◌, ◌<◌, ◌≤◌, List, [], ◌∷◌, ◌++◌, filter, cond, Bool, true, false, if◌then◌else◌, inl, inr, refl, sym, ap, ◌∙◌, subst, arith, AllPairs, sum_by}
use Rattle.std.specs.List.{AllByRecursion}
use Rattle.std.proofs.lemmas.Bool.Decides.{eqb_tells}
use Rattle.std.proofs.lemmas.List.Elements.{filter-append, All-from_recursion}
use Rattle.std.proofs.lemmas.List.Sums.{sum_by-append}
use Rattle.lock_model.specs.Deck.{Deck}
use Rattle.lock_rules.specs.Arrival.{numbers_from}
use Rattle.lock_rules.proofs.LineLemmas.{numbers_more}
use Rattle.refute_rules.specs.Reasons.{length_at}
use Rattle.refute_rules.specs.declared.choices.Choice.{Choice}
use Rattle.refute_rules.proofs.Packing.{Each}
use Rattle.refute_rules.proofs.ReasonLemmas.{each-from_pairs}
use Rattle.refute_rules.specs.BerthFaults.{ships_in}
use Rattle.berth_check.specs.PairReads.{AreClose}
use Rattle.berth_check.specs.CrowdReads.{has, AreAllClose}

module _ (d : Deck) (t : ℕ → Bool) where
  abbrev pub span : ℕ → ℕ
  span i = length_at d i + d.gap

  sum-one : (b : Bool) (i : ℕ) → sum_by span (cond b (i ∷ []) []) ≡ (if b then span i else 0)
  sum-one true i = omega arith
  sum-one false i = refl

  pub span_more : (i total : ℕ) (b : Bool) → total ≡ sum_by span (filter t (numbers_from 0 i)) → b ≡ t i → total + (if b then span i else 0) ≡ sum_by span (filter t (numbers_from 0 (i + 1)))
  span_more i total b e same =
      let push : numbers_from 0 (i + 1) ≡ numbers_from 0 i ++ (0 + i) ∷ [] = numbers_more 0 i in
      let zero-plus : 0 + i ≡ i = omega arith in
      let front = filter t (numbers_from 0 i) in
      let more : filter t (numbers_from 0 (i + 1)) ≡ front ++ filter t (i ∷ []) = ap (filter t) (push ∙ ap (λ k. numbers_from 0 i ++ k ∷ []) zero-plus) ∙ filter-append t (numbers_from 0 i) (i ∷ []) in
      let parts : sum_by span (filter t (numbers_from 0 (i + 1))) ≡ sum_by span front + sum_by span (cond (t i) (i ∷ []) []) = ap (sum_by span) more ∙ sum_by-append span front (filter t (i ∷ [])) in
      let last : sum_by span (cond (t i) (i ∷ []) []) ≡ (if b then span i else 0) = sum-one (t i) i ∙ ap (λ c. if c then span i else 0) (sym same) in
      omega (arith, e, parts, last)

module _ (t : ℕ → Bool) where
  all-told : (P : ℕ → Type 0) (low n : ℕ) → AllByRecursion P (filter t (numbers_from low n)) → (j : ℕ) → low ≤ j → j < low + n → t j ≡ true → P j
  all-told P low zero h j above below is = absurd (omega (arith, above, below))
  all-told P low (suc n) h j above below is =
      elim (eqb_tells low j) [
        | inl y ↦ subst P y.1 (first (t low) (subst (λ k. t k ≡ true) (sym y.1) is) h)
        | inr m ↦ all-told P (suc low) n (rest (t low) h) j (omega (arith, above, m.1)) (omega (arith, below)) is
      ]
    where
      first : (b : Bool) → b ≡ true → AllByRecursion P (cond b (low ∷ filter t (numbers_from (suc low) n)) (filter t (numbers_from (suc low) n))) → P low
      first true e h = h.0
      first false e h = cc

      rest : (b : Bool) → AllByRecursion P (cond b (low ∷ filter t (numbers_from (suc low) n)) (filter t (numbers_from (suc low) n))) → AllByRecursion P (filter t (numbers_from (suc low) n))
      rest true h = h.1
      rest false h = h

  all-made : (P : ℕ → Type 0) (low n : ℕ) → ((j : ℕ) → low ≤ j → j < low + n → t j ≡ true → P j) → AllByRecursion P (filter t (numbers_from low n))
  all-made P low zero h = tt
  all-made P low (suc n) h =
      join (t low) refl (all-made P (suc low) n (λ j above below is. h j (omega (arith, above)) (omega (arith, below)) is))
    where
      join : (b : Bool) → t low ≡ b → AllByRecursion P (filter t (numbers_from (suc low) n)) → AllByRecursion P (cond b (low ∷ filter t (numbers_from (suc low) n)) (filter t (numbers_from (suc low) n)))
      join true e more = (h low (omega arith) (omega arith) e, more)
      join false e more = more

  each-told : (R : ℕ → ℕ → Type 0) (low n : ℕ) → Each R (filter t (numbers_from low n)) → (i j : ℕ) → low ≤ i → i < j → j < low + n → t i ≡ true → t j ≡ true → R i j
  each-told R low zero h i j above less below a b = absurd (omega (arith, above, less, below))
  each-told R low (suc n) h i j above less below a b =
      elim (eqb_tells low i) [
        | inl y ↦ subst (λ k. R k j) y.1 (all-told (R low) (suc low) n (first (t low) (subst (λ k. t k ≡ true) (sym y.1) a) h) j (let same = y.1 in omega (arith, same, less)) (omega (arith, below)) b)
        | inr m ↦ each-told R (suc low) n (rest (t low) h) i j (omega (arith, above, m.1)) less (omega (arith, below)) a b
      ]
    where
      first : (b : Bool) → b ≡ true → Each R (cond b (low ∷ filter t (numbers_from (suc low) n)) (filter t (numbers_from (suc low) n))) → AllByRecursion (R low) (filter t (numbers_from (suc low) n))
      first true e h = h.0
      first false e h = cc

      rest : (b : Bool) → Each R (cond b (low ∷ filter t (numbers_from (suc low) n)) (filter t (numbers_from (suc low) n))) → Each R (filter t (numbers_from (suc low) n))
      rest true h = h.1
      rest false h = h

  each-made : (R : ℕ → ℕ → Type 0) (low n : ℕ) → ((i j : ℕ) → low ≤ i → i < j → j < low + n → t i ≡ true → t j ≡ true → R i j) → Each R (filter t (numbers_from low n))
  each-made R low zero h = tt
  each-made R low (suc n) h =
      join (t low) refl (each-made R (suc low) n (λ i j above less below a b. h i j (omega (arith, above)) less (omega (arith, below)) a b))
    where
      join : (b : Bool) → t low ≡ b → Each R (filter t (numbers_from (suc low) n)) → Each R (cond b (low ∷ filter t (numbers_from (suc low) n)) (filter t (numbers_from (suc low) n)))
      join true e more = (all-made (R low) (suc low) n (λ j above below is. h low j (omega arith) (omega (arith, above)) (omega (arith, below)) e is), more)
      join false e more = more

pairs-from_each : (R : ℕ → ℕ → Type 0) (xs : List ℕ) → Each R xs → AllPairs R xs
pairs-from_each R [] h i j u less here = absurd (omega (arith, here))
pairs-from_each R (x ∷ xs) h zero zero u less here = absurd (omega (arith, less))
pairs-from_each R (x ∷ xs) h zero (suc j) u less here = All-from_recursion (R x) xs h.0 j u (omega (arith, here))
pairs-from_each R (x ∷ xs) h (suc i) zero u less here = absurd (omega (arith, less))
pairs-from_each R (x ∷ xs) h (suc i) (suc j) u less here = pairs-from_each R xs h.1 i j u (omega (arith, less)) (omega (arith, here))

module _ (d : Deck) (case : List Choice) (set n : ℕ) where
  pub close_pairs : AreAllClose d case set n → AllPairs (AreClose d case) (ships_in n set)
  close_pairs h = pairs-from_each (AreClose d case) (ships_in n set) (each-made (has set) (AreClose d case) 0 n (λ i j above less below a b. (((h.each j (omega (arith, below))).lower b).each i less).close a))

  pub pairs_close : AllPairs (AreClose d case) (ships_in n set) → AreAllClose d case set n
  pairs_close h = record {
    each = λ j below. record { lower = λ b. record { each = λ i less. record { close = λ a. each-told (has set) (AreClose d case) 0 n (each-from_pairs (AreClose d case) (ships_in n set) h) i j (omega arith) less (omega (arith, below)) a b } } };
  }
