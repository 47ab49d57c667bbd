-- Sums of groups, ship by ship.
use Rattle.std.proofs.Common.{◌≡◌, ℕ, suc, ◌+◌, ◌<◌, ◌≤◌, max, true, false, cond, nat_lt, inl, inr, List, [], ◌∷◌, ◌++◌, length, All, refl, sym, ap, ◌∙◌, subst, arith, slice_index_or}
use Rattle.std.proofs.Math.Seq.{get_or-append_seam}
use Rattle.std.proofs.lemmas.Bool.Decides.{eqb_tells, leb_tells}
use Rattle.std.proofs.lemmas.List.{get_or_append_left, length-append}
use Rattle.std.proofs.lemmas.List.Elements.{All-head, All-tail, All-weaker}
use Rattle.std.proofs.lemmas.List.Sums.{sum_by-le}
use Rattle.lock_model.specs.Fleet.{ship_at, no_ship, no_chamber}
use Rattle.lock_model.specs.declared.instance.Instance.{Instance}
use Rattle.lock_model.specs.declared.group.Group.{Group}
use Rattle.lock_rules.specs.Timetable.{last_arrival}
use Rattle.lock_rules.specs.Children.{insert_number}
use Rattle.price_groups.specs.declared.sums.Sums.{Sums}
use Rattle.price_groups.specs.Masks.{IsMask}
use Rattle.price_groups.specs.Sums.{AreSumsOf, AreWeighed}
use Rattle.price_groups.proofs.IdleLemmas.{sum-insert}

module _ (I : Instance) where
  -- the low minute may be taken in at the end
  last-max : (low a : ℕ) (xs : List ℕ) → last_arrival I (max low a) xs ≡ max (last_arrival I low xs) a
  last-max low a [] = refl
  last-max low a (x ∷ xs) =
      let turned : max (max low a) (ship_at I x).arrival ≡ max (max low (ship_at I x).arrival) a = omega arith in
      ap (λ n. last_arrival I n xs) turned ∙ last-max (max low (ship_at I x).arrival) a xs

  last-insert : (low s : ℕ) (xs : List ℕ) → last_arrival I low (insert_number s xs) ≡ max (last_arrival I low xs) (ship_at I s).arrival
  last-insert low s [] = refl
  last-insert low s (x ∷ xs) =
      elim (nat_lt s x) as (λ b. last_arrival I low (cond b (s ∷ x ∷ xs) (x ∷ insert_number s xs)) ≡ max (last_arrival I low (x ∷ xs)) (ship_at I s).arrival) [
        | true ↦ last-max low (ship_at I s).arrival (x ∷ xs)
        | false ↦ last-insert (max low (ship_at I x).arrival) s xs
      ]

  last-small : (low : ℕ) (xs : List ℕ) → low ≤ 1000000 → All (λ s. s < length I.ships) xs → last_arrival I low xs ≤ 1000000
  last-small low [] small known = small
  last-small low (x ∷ xs) small known =
      let own = (I.limits.ship x no_ship (All-head (λ s. s < length I.ships) x xs known)).arrival in
      last-small (max low (ship_at I x).arrival) xs (omega (arith, small, own)) (All-tail (λ s. s < length I.ships) x xs known)

  module _ (c : ℕ) where
    -- a ship more
    pub more-sums : (old new : Sums) (s : ℕ) (ships : List ℕ) → new.duration ≡ old.duration + (ship_at I s).handling → new.last ≡ max old.last (ship_at I s).arrival → IsMask new.mask (insert_number s ships)
        → AreSumsOf I c ships old → AreSumsOf I c (insert_number s ships) new
    more-sums old new s ships longer later mask are = record {
      duration = omega (arith, longer, are.duration, sum-insert (λ s. (ship_at I s).handling) s ships);
      last = later ∙ ap (λ n. max n (ship_at I s).arrival) are.last ∙ sym (last-insert 0 s ships);
      mask = mask;
    }

    -- the sums of few ships are small
    pub sums-short : c < length I.chambers → (own : Sums) (ships : List ℕ) → All (λ s. s < length I.ships) ships → length ships ≤ 8 → AreSumsOf I c ships own → own.duration ≤ 9000000
    sums-short inside own ships known few are =
        let handled = sum_by-le (λ s. (ship_at I s).handling) 1000000 ships (All-weaker (λ s. s < length I.ships) (λ s. (ship_at I s).handling ≤ 1000000) (λ s h. (I.limits.ship s no_ship h).handling) ships known) in
        omega (arith, are.duration, handled, few, (I.limits.chamber c no_chamber inside).pass.1)

    pub sums-soon : (own : Sums) (ships : List ℕ) → All (λ s. s < length I.ships) ships → AreSumsOf I c ships own → own.last ≤ 1000000
    sums-soon own ships known are = omega (arith, are.last, last-small 0 ships (omega arith) known)

    -- those of one of the groups
    pub weighed-at : (groups : List Group) (sums : List Sums) → AreWeighed I c groups sums → (j : ℕ) (g : Group) (own : Sums) → j < length groups → g ≡ slice_index_or groups j g → own ≡ slice_index_or sums j own → AreSumsOf I c g.ships own
    weighed-at groups sums are j g own here at is =
        subst (AreSumsOf I c g.ships) (sym is) (subst (λ (h : Group). AreSumsOf I c h.ships (slice_index_or sums j own)) (sym at) (are.each j g own here))

    -- no groups
    pub weighed-none : AreWeighed I c [] []
    weighed-none = record { count = refl; each = λ j d e none. absurd (omega (arith, none)) }

    -- a group more
    pub weighed-more : (groups : List Group) (sums : List Sums) (g : Group) (own : Sums) → AreSumsOf I c g.ships own → AreWeighed I c groups sums → AreWeighed I c (groups ++ g ∷ []) (sums ++ own ∷ [])
    weighed-more groups sums g own is are = record {
      count = omega (arith, are.count, length-append groups (g ∷ []), length-append sums (own ∷ []));
      each = λ j d e less. elim (eqb_tells j (length groups)) [
        | inl y ↦
            let group : slice_index_or (groups ++ g ∷ []) j d ≡ g = ap (λ i. slice_index_or (groups ++ g ∷ []) i d) y.1 ∙ get_or-append_seam groups g [] d in
            let sum : slice_index_or (sums ++ own ∷ []) j e ≡ own = ap (λ i. slice_index_or (sums ++ own ∷ []) i e) (y.1 ∙ sym are.count) ∙ get_or-append_seam sums own [] e in
            subst (λ h. AreSumsOf I c (slice_index_or (groups ++ g ∷ []) j d).ships h) (sym sum) (subst (λ (h : Group). AreSumsOf I c h.ships own) (sym group) is)
        | inr m ↦
            let before : j < length groups = elim (leb_tells (suc j) (length groups)) [ inl y ↦ y.1 | inr q ↦ absurd (m.1 (omega (arith, less, q.1, length-append groups (g ∷ [])))) ] in
            subst (λ h. AreSumsOf I c (slice_index_or (groups ++ g ∷ []) j d).ships h) (sym (get_or_append_left sums (own ∷ []) e j (omega (arith, before, are.count))))
            (subst (λ (h : Group). AreSumsOf I c h.ships (slice_index_or sums j e)) (sym (get_or_append_left groups (g ∷ []) d j before)) (are.each j d e before))
      ];
    }
