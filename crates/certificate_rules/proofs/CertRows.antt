-- Marks of worked dossiers, by computation.
use Rattle.std.proofs.Common.{◌≡◌, ℕ, zero, suc, ◌+◌, ◌*◌, ◌<◌, ◌≤◌, List, [], ◌∷◌, Contains, refl, sym, subst, ◌⊎◌, inl, inr, Some, arith}
use Rattle.std.proofs.lemmas.Option.{same_Some, none-some}
use Rattle.std.specs.List.Sorted.{IsStrictlyIncreasing}
use Rattle.std.proofs.lemmas.List.Elements.{All-cons, All-nil, All-head}
use Rattle.lock_model.specs.Fleet.{ship_at}
use Rattle.lock_model.specs.declared.ship.Ship.{Ship}
use Rattle.lock_model.specs.declared.instance.Instance.{Instance}
use Rattle.lock_model.specs.declared.group.Group.{Group}
use Rattle.lock_model.specs.declared.way.Way.TheVariants.{Up}
use Rattle.lock_rules.specs.Children.{single}
use Rattle.price_rules.specs.declared.triple.Triple.{Triple}
use Rattle.price_rules.specs.Prices.{PriceList, Spares, IsUncut, IsLoose, AreLoose, Reaches}
use Rattle.refute_rules.specs.declared.refutation.Quick.TheVariants.{Row}
use Rattle.refute_rules.specs.declared.refutation.Refutation.TheVariants as refutation
use Rattle.closing_rules.specs.ProvedCuts.{CertCut}
use Rattle.closing_rules.specs.ListedPrices.{AreShapedPrices, cut_in, ship_prices}
use Rattle.lock_model.specs.Instance.{IsInstance}
use Rattle.lock_rules.specs.Node.{root_lines, line_at}
use Rattle.lock_rules.proofs.NodeLemmas.{increasing-RisesFrom}
use Rattle.lock_rules.proofs.RowInstances.{early_ship, chambers-narrow, ships-narrow, narrow, chambers-side_by_side, ships-side_by_side, side_by_side}
use Rattle.certificate_rules.specs.declared.certificate.Mark.TheVariants as mark
use Rattle.certificate_rules.specs.declared.certificate.Reason.TheVariants as reason
use Rattle.certificate_rules.specs.Certificates.{IsMarkTree, cuts_in, EndsNode}
use Rattle.certificate_rules.specs.Failures.{PricesFail, MarksFail}
use Rattle.closing_rules.specs.declared.grounds.Ground.TheVariants as by

-- the first dossier: `[0,0,1,1,1]`, and `[0,11]`
row-tree : (ok : IsInstance chambers-side_by_side ships-side_by_side) → IsMarkTree (side_by_side ok) (EndsNode (side_by_side ok) 80 [] []) 2 0 root_lines (mark.Split ∷ mark.Split ∷ mark.Leaf by.Bound ∷ mark.Leaf by.Bound ∷ mark.Leaf by.Bound ∷ []) []
row-tree ok =
    let same : 80 ≤ 80 = omega arith in
    let more : 80 ≤ 120 = omega arith in
    inr (
      mark.Split ∷ mark.Leaf by.Bound ∷ mark.Leaf by.Bound ∷ mark.Leaf by.Bound ∷ [],
      refl,
      (
        [],
        inr (
          mark.Leaf by.Bound ∷ mark.Leaf by.Bound ∷ mark.Leaf by.Bound ∷ [],
          refl,
          (mark.Leaf by.Bound ∷ mark.Leaf by.Bound ∷ [], (mark.Leaf by.Bound, same, refl), (mark.Leaf by.Bound ∷ [], (mark.Leaf by.Bound, more, refl), ([], (mark.Leaf by.Bound, more, refl), refl))),
        ),
        refl,
      ),
    )

row-probe : (ok : IsInstance chambers-side_by_side ships-side_by_side) → IsMarkTree (side_by_side ok) (EndsNode (side_by_side ok) 80 [] []) 2 0 root_lines (mark.Split ∷ mark.Leaf (by.Probe 1) ∷ []) []
row-probe ok =
    let same : 80 ≤ 80 = omega arith in
    inr (mark.Leaf (by.Probe 1) ∷ [], refl, ([], inl (mark.Leaf (by.Probe 1), ((0, omega arith, refl), same), refl), refl))

-- an edit of the second dossier, a bound mark for the cut: `rejected tree 2 reason 8 BoundLow`
row-bound : (ok : IsInstance chambers-narrow ships-narrow) → MarksFail (narrow ok) (EndsNode (narrow ok) 120 [] []) (mark.Split ∷ mark.Split ∷ mark.Leaf by.Bound ∷ mark.Leaf by.Bound ∷ mark.Leaf by.Bound ∷ []) (mark.Leaf by.Bound ∷ mark.Leaf by.Bound ∷ mark.Leaf by.Bound ∷ []) reason.BoundLow
row-bound ok = inl (inr (mark.Split ∷ mark.Leaf by.Bound ∷ mark.Leaf by.Bound ∷ mark.Leaf by.Bound ∷ [], refl, inl (inr (mark.Leaf by.Bound ∷ mark.Leaf by.Bound ∷ mark.Leaf by.Bound ∷ [], refl, inl (refl, low, refl)))))
  where
    low : 120 ≤ 80 → ⊥
    low h = omega (arith, h)

-- a split of a full node: `rejected tree 2 reason 7 SplitFull`
row-full : (ok : IsInstance chambers-narrow ships-narrow) → MarksFail (narrow ok) (EndsNode (narrow ok) 120 [] []) (mark.Split ∷ mark.Split ∷ mark.Split ∷ mark.Leaf by.Bound ∷ mark.Leaf by.Bound ∷ []) (mark.Split ∷ mark.Leaf by.Bound ∷ mark.Leaf by.Bound ∷ []) reason.SplitFull
row-full ok = inl (inr (mark.Split ∷ mark.Split ∷ mark.Leaf by.Bound ∷ mark.Leaf by.Bound ∷ [], refl, inl (inr (mark.Split ∷ mark.Leaf by.Bound ∷ mark.Leaf by.Bound ∷ [], refl, inl (refl, (λ h. h), refl)))))

-- an empty tree: `rejected tree 0 reason 5 TreeShort`
row-empty : (ok : IsInstance chambers-narrow ships-narrow) → MarksFail (narrow ok) (EndsNode (narrow ok) 120 [] []) [] [] reason.TreeShort
row-empty ok = inl (inl (refl, refl))

-- ---- prices: the cut of both ships, and prices 8400 and 8400 at the root

abbrev pub narrow_cuts : List CertCut
narrow_cuts = record { chamber = 0; ships = 0 ∷ 1 ∷ []; refutation = refutation.Quick (Row (0 ∷ 1 ∷ [])) } ∷ []

abbrev pub low_prices : List PriceList
low_prices = ship_prices (8400 ∷ 8400 ∷ []) ∷ []

-- the first ship alone in the chamber is worth 3500 - 8400
abbrev first_alone : ℕ → List Group
first_alone c = single Up 0 ∷ []

first-loose : (ok : IsInstance chambers-narrow ships-narrow) → AreLoose (narrow ok) (cuts_in (narrow ok) narrow_cuts) 0 root_lines first_alone
first-loose ok = record {
  each = λ c known. subst (λ c. IsLoose (narrow ok) c (cuts_in (narrow ok) narrow_cuts) 0 (line_at root_lines c) (first_alone c)) (omega (arith, known)) (record {
    uncut = All-cons (IsUncut (narrow ok) 0 (cuts_in (narrow ok) narrow_cuts)) (single Up 0) [] (record {
      good = record {
        rising = single-rising;
        count = (omega arith, omega arith);
        way = All-cons (λ s. (ship_at (narrow ok) s).way ≡ Up) 0 [] refl (All-nil (λ s. (ship_at (narrow ok) s).way ≡ Up));
      };
      known = All-cons (λ s. s < 2) 0 [] (omega arith) (All-nil (λ s. s < 2));
      spared = All-cons (Spares (narrow ok) 0 (0 ∷ [])) (cut_in (narrow ok) 0 (0 ∷ 1 ∷ [])) [] (record { spared = λ hits. lacks (hits.among 1 0 (omega arith)) }) (All-nil (Spares (narrow ok) 0 (0 ∷ [])));
    }) (All-nil (IsUncut (narrow ok) 0 (cuts_in (narrow ok) narrow_cuts)));
    trace = refl;
  });
}
  where
    single-rising : IsStrictlyIncreasing (0 ∷ [])
    single-rising = λ k known. absurd (omega (arith, known))

    lacks : Contains {X = ℕ} (0 ∷ []) 1 → ⊥
    lacks (zero, known, is) = absurd (omega (arith, is))
    lacks (suc k, known, is) = absurd (omega (arith, known))

-- 12000 + 8400 isn't below 3500 + 16800 + 100: `rejected tree 0 reason 13 PriceLow`
row-low_prices : (ok : IsInstance chambers-narrow ships-narrow)
    → MarksFail (narrow ok) (EndsNode (narrow ok) 120 narrow_cuts low_prices) (mark.Leaf (by.Price 0) ∷ []) (mark.Leaf (by.Price 0) ∷ []) reason.PriceLow
row-low_prices ok = inl (inl (refl, low, refl))
  where
    some-same : (own : PriceList) → Some (ship_prices (8400 ∷ 8400 ∷ [])) ≡ Some own → ship_prices (8400 ∷ 8400 ∷ []) ≡ own
    some-same own e = same_Some (ship_prices (8400 ∷ 8400 ∷ [])) own e

    low : EndsNode (narrow ok) 120 narrow_cuts low_prices 0 root_lines (mark.Leaf (by.Price 0)) ⊎ (mark.Leaf (by.Price 0) ≡ mark.Split) → ⊥
    low (inl h) =
        let reached = subst (λ own. Reaches (narrow ok) (cuts_in (narrow ok) narrow_cuts) 0 root_lines own 120) (sym (some-same h.own h.there)) h.reached in
        let high : 100 * 120 + 8400 + 0 < 100 * 35 + 0 + 16800 + 100 = reached.high first_alone (first-loose ok) in
        omega (arith, high)
    low (inr h) = cc

-- no such prices: `rejected tree 0 reason 13 PriceLow`
row-no_prices : (ok : IsInstance chambers-narrow ships-narrow)
    → MarksFail (narrow ok) (EndsNode (narrow ok) 120 narrow_cuts []) (mark.Leaf (by.Price 0) ∷ []) (mark.Leaf (by.Price 0) ∷ []) reason.PriceLow
row-no_prices ok = inl (inl (refl, low, refl))
  where
    low : EndsNode (narrow ok) 120 narrow_cuts [] 0 root_lines (mark.Leaf (by.Price 0)) ⊎ (mark.Leaf (by.Price 0) ≡ mark.Split) → ⊥
    low (inl h) = none-some h.own h.there
    low (inr h) = cc

-- one price for two ships: `rejected prices 0 reason 12 PricesShape`
row-prices : (ok : IsInstance chambers-narrow ships-narrow) → PricesFail (narrow ok) (ship_prices (8500 ∷ []) ∷ []) 0 reason.PricesShape
row-prices ok = record {
  own = ship_prices (8500 ∷ []);
  known = omega arith;
  is = refl;
  before = All-nil (AreShapedPrices (narrow ok));
  misshaped = λ shaped. absurd (omega (arith, shaped.count));
  reason = refl;
}

-- the first three ships, at five minutes
abbrev of_three : Triple
of_three = record { first = 0; second = 1; third = 2; price = 500 }

-- a triple of a ship that isn't there: `rejected prices 0 reason 12 PricesShape`
row-strange : (ok : IsInstance chambers-narrow ships-narrow)
    → PricesFail (narrow ok) (record { ships = 8500 ∷ 8500 ∷ []; triples = of_three ∷ [] } ∷ []) 0 reason.PricesShape
row-strange ok = record {
  own = record { ships = 8500 ∷ 8500 ∷ []; triples = of_three ∷ [] };
  known = omega arith;
  is = refl;
  before = All-nil (AreShapedPrices (narrow ok));
  misshaped = λ shaped. absurd (let known = All-head (λ (t : Triple). t.third < 2) of_three [] shaped.known in omega (arith, known));
  reason = refl;
}

-- ---- three ships of which the first two together pay two prices and are charged their triple

abbrev ships-three : List Ship
ships-three = early_ship Up 5 ∷ early_ship Up 5 ∷ early_ship Up 5 ∷ []

abbrev three : IsInstance chambers-side_by_side ships-three → Instance
three ok = record { chambers = chambers-side_by_side; ships = ships-three; limits = ok }

abbrev tripled : PriceList
tripled = record { ships = 8400 ∷ 8400 ∷ 8400 ∷ []; triples = of_three ∷ [] }

abbrev first_two : ℕ → List Group
first_two c = record { way = Up; ships = 0 ∷ 1 ∷ [] } ∷ []

two-loose : (ok : IsInstance chambers-side_by_side ships-three) → AreLoose (three ok) [] 0 root_lines first_two
two-loose ok = record {
  each = λ c known. subst (λ c. IsLoose (three ok) c [] 0 (line_at root_lines c) (first_two c)) (omega (arith, known)) (record {
    uncut = All-cons (IsUncut (three ok) 0 []) (record { way = Up; ships = 0 ∷ 1 ∷ [] }) [] (record {
      good = record {
        rising = increasing-RisesFrom 0 (0 ∷ 1 ∷ []) (omega arith, (omega arith, tt));
        count = (omega arith, omega arith);
        way = All-cons (λ s. (ship_at (three ok) s).way ≡ Up) 0 (1 ∷ []) refl (All-cons (λ s. (ship_at (three ok) s).way ≡ Up) 1 [] refl (All-nil (λ s. (ship_at (three ok) s).way ≡ Up)));
      };
      known = All-cons (λ s. s < 3) 0 (1 ∷ []) (omega arith) (All-cons (λ s. s < 3) 1 [] (omega arith) (All-nil (λ s. s < 3)));
      spared = All-nil (Spares (three ok) 0 (0 ∷ 1 ∷ []));
    }) (All-nil (IsUncut (three ok) 0 []));
    trace = refl;
  });
}

-- 16500 + 16800 + 500 isn't below 8000 + 500 + 25200 + 100
row-triple : (ok : IsInstance chambers-side_by_side ships-three)
    → MarksFail (three ok) (EndsNode (three ok) 165 [] (tripled ∷ [])) (mark.Leaf (by.Price 0) ∷ []) (mark.Leaf (by.Price 0) ∷ []) reason.PriceLow
row-triple ok = inl (inl (refl, low, refl))
  where
    low : EndsNode (three ok) 165 [] (tripled ∷ []) 0 root_lines (mark.Leaf (by.Price 0)) ⊎ (mark.Leaf (by.Price 0) ≡ mark.Split) → ⊥
    low (inl h) =
        let reached = subst (λ own. Reaches (three ok) [] 0 root_lines own 165) (sym (same_Some tripled h.own h.there)) h.reached in
        let high : 100 * 165 + 16800 + 500 < 100 * 80 + 500 + 25200 + 100 = reached.high first_two (two-loose ok) in
        omega (arith, high)
    low (inr h) = cc
