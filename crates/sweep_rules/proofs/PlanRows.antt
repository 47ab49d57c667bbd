-- The worked lock's plan and a cut of it: the swept cost is that of a cheapest plan, given heredity.
use Rattle.std.proofs.Common.{◌≡◌, ℕ, zero, suc, ◌+◌, ◌<◌, ◌≤◌, ◌⊎◌, inl, inr, false, [], ◌∷◌, All, Contains, refl, sym, subst, arith, slice_index_or}
use Rattle.std.proofs.lemmas.List.Elements.{All-cons, All-nil, All-contains}
use Rattle.lock_model.specs.Deck.{Deck, IsDeck, IsSize, size_at}
use Rattle.lock_model.specs.Placement.{IsLegalPlacement, AreApart, IsInside, IsBerthed, spot_at}
use Rattle.lock_model.specs.Cargo.{HasNoClash}
use Rattle.lock_model.specs.Fitting.{deck_of}
use Rattle.lock_model.specs.Fleet.{ship_at}
use Rattle.lock_model.specs.declared.deck.Size.{Size}
use Rattle.lock_model.specs.declared.placement.Spot.{Spot}
use Rattle.lock_model.specs.declared.placement.Rank.TheVariants.{Left}
use Rattle.lock_model.specs.declared.placement.Moor.TheVariants.{Quay}
use Rattle.lock_model.specs.declared.plan.Lockage.{Lockage}
use Rattle.lock_model.specs.declared.plan.Plan.{Plan}
use Rattle.lock_model.specs.declared.way.Way.TheVariants.{Up}
use Rattle.lock_model.specs.declared.way.Stand.TheVariants.{Low}
use Rattle.lock_rules.specs.Plan.{IsLegalLockage, IsLegal, IsTimely, IsCheapest, cost_of, served_in}
use Rattle.lock_rules.specs.Cut.{IsTrueCut}
use Rattle.lock_rules.specs.Heredity.{IsHereditary}
use Rattle.lock_rules.proofs.TimetableLemmas.{timetable-lawful}
use Rattle.lock_rules.proofs.NodeLemmas.{increasing-RisesFrom}
use Rattle.price_rules.specs.Prices.{PlainCut, CutHolds}
use Rattle.sweep_rules.specs.Uncut.{IsSwept}
use Rattle.sweep_rules.proofs.SweptLemmas.{swept-holds, swept-stays}
use Rattle.sweep_rules.proofs.RowLock.{row}
use Rattle.sweep_rules.specs.Equal.{IsEqualBefore, swapped, HasSwapped, AreSwapped, IsInOrder}
use Rattle.sweep_rules.proofs.SwapLemmas.{swapped-cases}
use Rattle.sweep_rules.proofs.Rows.{up, in_order, in_order-swept}

-- ---- the plan that serves one ship after the other
abbrev at_quay : Spot
at_quay = record { x = 10; y = 0; rank = Left; moor = Quay }

abbrev lockage_of : ℕ → ℕ → Lockage
lockage_of s start = record { chamber = 0; way = Up; ships = s ∷ []; start = start; spots = at_quay ∷ [] }

abbrev row_plan : Plan
row_plan = record { lockages = lockage_of 0 0 ∷ lockage_of 1 50 ∷ lockage_of 2 100 ∷ [] }

abbrev alone : Deck
alone = deck_of row 0 (0 ∷ [])

quay-legal : IsLegalPlacement alone (at_quay ∷ [])
quay-legal = record {
  count = refl;
  inside = λ i here. inside i here;
  apart = λ i here. record { later = λ j less within. absurd (omega (arith, less, within)) };
  berthed = λ i here. berthed i here;
}
  where
    inside : (i : ℕ) → i < 1 → IsInside alone (size_at alone i) (spot_at (at_quay ∷ []) i)
    inside zero here = (omega arith, omega arith, omega arith)
    inside (suc i) here = absurd (omega (arith, here))

    berthed : (i : ℕ) → i < 1 → IsBerthed alone (at_quay ∷ []) i
    berthed zero here = refl
    berthed (suc i) here = absurd (omega (arith, here))

alone-clear : HasNoClash alone
alone-clear = record { clear = λ i here. record { later = λ j less within. absurd (omega (arith, less, within)) } }

lockage-legal : (s start : ℕ) → s < 3 → (ship_at row s).way ≡ Up → deck_of row 0 (s ∷ []) ≡ alone → IsLegalLockage row (lockage_of s start)
lockage-legal s start known way same = record {
  chamber = omega arith;
  known = All-cons (λ t. t < 3) s [] known (All-nil (λ t. t < 3));
  rising = increasing-RisesFrom 0 (s ∷ []) (omega arith, tt);
  count = (omega arith, omega arith);
  way = All-cons (λ t. (ship_at row t).way ≡ Up) s [] way (All-nil (λ t. (ship_at row t).way ≡ Up));
  placed = subst (λ d. IsLegalPlacement d (at_quay ∷ [])) (sym same) quay-legal;
  clear = subst HasNoClash (sym same) alone-clear;
}

row_plan-legal : IsLegal row row_plan
row_plan-legal = record {
  once = λ s known. once s known;
  lockage = All-cons (IsLegalLockage row) (lockage_of 0 0) (lockage_of 1 50 ∷ lockage_of 2 100 ∷ []) (lockage-legal 0 0 (omega arith) refl refl)
      (All-cons (IsLegalLockage row) (lockage_of 1 50) (lockage_of 2 100 ∷ []) (lockage-legal 1 50 (omega arith) refl refl)
      (All-cons (IsLegalLockage row) (lockage_of 2 100) [] (lockage-legal 2 100 (omega arith) refl refl) (All-nil (IsLegalLockage row))));
  timely = λ c known. timely c known;
}
  where
    once : (s : ℕ) → s < 3 → served_in row_plan.lockages s ≡ 1
    once zero known = refl
    once (suc zero) known = refl
    once (suc (suc zero)) known = refl
    once (suc (suc (suc s))) known = absurd (omega (arith, known))

    timely : (c : ℕ) → c < 1 → IsTimely row row_plan c
    timely zero known = record { lawful = timetable-lawful row 0 (omega arith) Low 0 (in_order 0) }
    timely (suc c) known = absurd (omega (arith, known))

row_plan-cost : cost_of row row_plan ≡ 225
row_plan-cost = refl

-- ---- all three ships don't fit: two lie side by side, and no two one behind the other
abbrev crowded : Deck
crowded = deck_of row 0 (0 ∷ 1 ∷ 2 ∷ [])

-- two ships that are inside and apart lie apart across
apart-across : (p q : Spot) → IsInside crowded (size_at crowded 0) p → IsInside crowded (size_at crowded 0) q → AreApart crowded (size_at crowded 0) p (size_at crowded 0) q → (p.y + 119 ≤ q.y) ⊎ (q.y + 119 ≤ p.y)
apart-across p q inside_p inside_q apart =
    elim apart [
      | inl before ↦ absurd (omega (arith, inside_p, inside_q, before))
      | inr rest ↦ elim rest [
        | inl behind ↦ absurd (omega (arith, inside_p, inside_q, behind))
        | inr across ↦ elim across [
          | inl low ↦ inl (omega (arith, low))
          | inr high ↦ inr (omega (arith, high))
        ]
      ]
    ]

three-unfit : IsTrueCut crowded
three-unfit fits =
    let spots = fits.placed.0 in
    let legal = fits.placed.1 in
    let one = legal.inside 0 (omega arith) in
    let two = legal.inside 1 (omega arith) in
    let three = legal.inside 2 (omega arith) in
    let first = apart-across (spot_at spots 0) (spot_at spots 1) one two ((legal.apart 0 (omega arith)).later 1 (omega arith) (omega arith)) in
    let second = apart-across (spot_at spots 0) (spot_at spots 2) one three ((legal.apart 0 (omega arith)).later 2 (omega arith) (omega arith)) in
    let third = apart-across (spot_at spots 1) (spot_at spots 2) two three ((legal.apart 1 (omega arith)).later 2 (omega arith) (omega arith)) in
    between (spot_at spots 0).y (spot_at spots 1).y (spot_at spots 2).y (omega (arith, one)) (omega (arith, two)) (omega (arith, three)) first second third
  where
    between : (a b c : ℕ) → a + 114 ≤ 240 → b + 114 ≤ 240 → c + 114 ≤ 240 → (a + 119 ≤ b) ⊎ (b + 119 ≤ a) → (a + 119 ≤ c) ⊎ (c + 119 ≤ a) → (b + 119 ≤ c) ⊎ (c + 119 ≤ b) → ⊥
    between a b c one two three (inl p) (inl q) (inl r) = absurd (omega arith)
    between a b c one two three (inl p) (inl q) (inr r) = absurd (omega arith)
    between a b c one two three (inl p) (inr q) (inl r) = absurd (omega arith)
    between a b c one two three (inl p) (inr q) (inr r) = absurd (omega arith)
    between a b c one two three (inr p) (inl q) (inl r) = absurd (omega arith)
    between a b c one two three (inr p) (inl q) (inr r) = absurd (omega arith)
    between a b c one two three (inr p) (inr q) (inl r) = absurd (omega arith)
    between a b c one two three (inr p) (inr q) (inr r) = absurd (omega arith)

abbrev row_cut : PlainCut
row_cut = record { ships = 0 ∷ 1 ∷ 2 ∷ []; deck = crowded }

abbrev a_size : Size
a_size = record { length = 1100; width = 114; cargo = 0 }

crowded-limits : IsDeck crowded
crowded-limits = record {
  long = (omega arith, omega arith);
  wide = (omega arith, omega arith);
  clear = (omega arith, omega arith, omega arith);
  count = (omega arith, omega arith);
  sizes = All-cons IsSize a_size (a_size ∷ a_size ∷ []) size-limits (All-cons IsSize a_size (a_size ∷ []) size-limits (All-cons IsSize a_size [] size-limits (All-nil IsSize)));
}
  where
    size-limits : IsSize a_size
    size-limits = record { long = (omega arith, omega arith); wide = (omega arith, omega arith); cargo = omega arith }

row_cut-holds : CutHolds row_cut
row_cut-holds = record {
  limits = crowded-limits;
  some = omega arith;
  rising = increasing-RisesFrom 0 (0 ∷ 1 ∷ 2 ∷ []) (omega arith, (omega arith, (omega arith, tt)));
  unfit = three-unfit;
}

-- swept by this cut as well, the plan is a cheapest one
row-swept : IsSwept row (row_cut ∷ []) 225
row-swept = swept-stays row [] (row_cut ∷ []) (All-nil (Contains (row_cut ∷ []))) 225 225 (omega arith) in_order-swept

row_plan-cheapest : IsHereditary → IsCheapest row row_plan
row_plan-cheapest law = record {
  legal = row_plan-legal;
  least = λ other legal. omega (
    arith,
    row_plan-cost,
    swept-holds law row (row_cut ∷ []) (All-cons CutHolds row_cut [] row_cut-holds (All-nil CutHolds)) 225 row-swept other legal,
  );
}

-- ---- equal ships
-- a swap of two of the three ships is among them
three-swapped : (a b s : ℕ) → a < 3 → b < 3 → s < 3 → swapped a b s < 3
three-swapped a b s known_a known_b known = swapped-cases a b (λ s t. s < 3 → t < 3) (λ s same h. known_b) (λ s other same h. known_a) (λ s other apart h. h) s known

three-held : (s : ℕ) → s < 3 → Contains row_cut.ships s
three-held zero known = (0, omega arith, refl)
three-held (suc zero) known = (1, omega arith, refl)
three-held (suc (suc zero)) known = (2, omega arith, refl)
three-held (suc (suc (suc s))) known = absurd (omega (arith, known))

-- the cut of all three has all swaps, being its own
row_cut-swapped : AreSwapped row (row_cut ∷ [])
row_cut-swapped = record {
  each = λ a b known_a known_b equal. All-cons (HasSwapped row (row_cut ∷ []) a b) row_cut [] (own a b known_a known_b) (All-nil (HasSwapped row (row_cut ∷ []) a b));
}
  where
    own : (a b : ℕ) → a < 3 → b < 3 → HasSwapped row (row_cut ∷ []) a b row_cut
    own a b known_a known_b = record {
      other = row_cut;
      held = (0, omega arith, refl);
      ships = λ k d here. three-held (swapped a b (slice_index_or row_cut.ships k d)) (three-swapped a b (slice_index_or row_cut.ships k d) known_a known_b (three-below k d here));
      sizes = refl;
      tight = λ c tight. tight;
    }
      where
        three-below : All (λ s. s < 3) (0 ∷ 1 ∷ 2 ∷ [])
        three-below = All-cons (λ s. s < 3) 0 (1 ∷ 2 ∷ []) (omega arith) (All-cons (λ s. s < 3) 1 (2 ∷ []) (omega arith) (All-cons (λ s. s < 3) 2 [] (omega arith) (All-nil (λ s. s < 3))))

-- the first ship is equal to the second and before it, so the second alone is out of order
first-before : IsEqualBefore row 0 1
first-before = record { way = refl; size = refl; handling = refl; order = inl (omega arith) }

second-not_first : IsInOrder row (λ s. false) (up 1) → ⊥
second-not_first ordered =
    let held : Contains (up 1).ships 0 = ordered.first 0 1 (omega arith) first-before (0, omega arith, refl) refl in
    absurd (omega (arith, All-contains (λ s. 1 ≤ s) (up 1).ships 0 (All-cons (λ s. 1 ≤ s) 1 [] (omega arith) (All-nil (λ s. 1 ≤ s))) held))

-- and the first alone is in order
first-in_order : IsInOrder row (λ s. false) (up 0)
first-in_order = record {
  first = λ a b known equal held missing.
      let same : 0 ≡ b = All-contains (λ s. 0 ≡ s) (0 ∷ []) b (All-cons (λ s. 0 ≡ s) 0 [] refl (All-nil (λ s. 0 ≡ s))) held in
      absurd (none-before a known (subst (IsEqualBefore row a) (sym same) equal));
}
  where
    none-before : (a : ℕ) → a < 3 → IsEqualBefore row a 0 → ⊥
    none-before a known equal = elim equal.order [ inl sooner ↦ absurd (omega (arith, sooner)) | inr at_once ↦ absurd (omega (arith, at_once.1)) ]
