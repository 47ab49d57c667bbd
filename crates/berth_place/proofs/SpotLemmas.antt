-- The spots of a whole case whose ships the values put apart are legal.
use Rattle.std.proofs.Common.{◌≡◌, ◌≢◌, ℕ, ◌+◌, ◌<◌, ◌≤◌, ◌⊎◌, ℤ, pos, negsuc, ◌≤ℤ◌, List, length, inl, inr, refl, ap, ◌∙◌, arith, Some}
use Rattle.std.proofs.lemmas.Int.{ints}
use Rattle.lock_model.specs.Deck.{Deck}
use Rattle.lock_model.specs.Placement.{IsLegalPlacement, spot_at}
use Rattle.lock_model.specs.declared.placement.Spot.{Spot}
use Rattle.list_laws.specs.Among.{IsAmong}
use Rattle.lock_model.specs.declared.placement.Moor.TheVariants.{Ship}
use Rattle.diff_rules.specs.declared.edges.Edge.{Edge}
use Rattle.diff_rules.specs.Differences.{value_at}
use Rattle.diff_system.specs.PathTree.{PathTree, AreLongest}
use Rattle.refute_rules.specs.Reasons.{length_at}
use Rattle.refute_rules.specs.declared.choices.Choice.{Choice}
use Rattle.refute_rules.specs.Known.{host_of}
use Rattle.refute_rules.specs.BerthCases.{host_in, HasOrder, ObeyAlong}
use Rattle.refute_rules.specs.BerthTrees.{AreUnordered}
use Rattle.refute_rules.proofs.BerthFit.{berths-legal}
use Rattle.berth_check.specs.Raises.{AreKnown}
use Rattle.berth_check.proofs.RaiseLemmas.{host-known}
use Rattle.berth_place.specs.declared.pairs.Pair.{Pair}
use Rattle.berth_place.specs.Along.{place_var, place_count, AreValuesOf}
use Rattle.berth_place.specs.Known.{HasAllBerths}
use Rattle.berth_place.specs.Pairs.{pair, ArePairs, AreAllPairs, IsBeforeAt, AreFirstApart, AreNotApart, AreSmallValues}
use Rattle.berth_place.specs.Spotting.{AreSpotsSoFar}
use Rattle.berth_place.proofs.PairLemmas.{pair_at, pair_number, among_apart}

pub small_values : (d : Deck) (edges : List Edge) (tree : PathTree) → AreLongest edges (place_count d) tree → AreSmallValues d tree.values
small_values d edges tree longest = record { count = longest.is_tree.values_count; small = longest.is_tree.small }

abbrev pub natural : ℤ → ℕ
natural (pos x) = x
natural (negsuc x) = 0

natural-is : (z : ℤ) → pos 0 ≤ℤ z → z ≡ pos (natural z)
natural-is (pos x) h = refl
natural-is (negsuc x) h = absurd (omega (arith, ints, h))

-- the places that a least solution gives
abbrev pub places_of : List ℤ → ℕ → ℕ
places_of values i = natural (value_at values (place_var i))

pub places_values : (d : Deck) (values : List ℤ) → AreSmallValues d values → AreValuesOf d values (places_of values)
places_values d values small = record { value = λ i h. natural-is (value_at values (place_var i)) (small.small (place_var i) (omega (arith, h))).low }

module _ (d : Deck) (case : List Choice) (known : AreKnown d case) (whole : HasAllBerths d case) (values : List ℤ) (spots : List Spot) (are : AreSpotsSoFar d case values (length d.ships) spots) where
  pub spots_values : AreValuesOf d values (λ i. (spot_at spots i).x)
  spots_values = record { value = λ i h. (are.each i h).x }

  host-known-of : (i k : ℕ) → i < length d.ships → (spot_at spots i).moor ≡ Ship k → (k < length d.ships) × (k ≢ i)
  host-known-of i k h e =
      let host : host_in case i ≡ Some k = ap host_of ((are.each i h).berth ∙ ap (λ m. Some (record { rank = (spot_at spots i).rank; moor = m })) e) in
      ((host-known d case known i k host).1, whole.other i k host)

  apart-at : (i j : ℕ) → i < length d.ships → j < length d.ships → IsBeforeAt d values i j → (spot_at spots i).x + length_at d i + d.gap ≤ (spot_at spots j).x
  apart-at i j hi hj b =
      let own = (are.each i hi).x in
      let other = (are.each j hj).x in
      let far = b.before in
      omega (arith, ints, own, other, far)

  pub spots_legal : (obey : ObeyAlong d case (λ i. (spot_at spots i).x)) (ps : List Pair) → AreAllPairs d case ps (length d.ships) → AreFirstApart d values ps (length ps) → IsLegalPlacement d spots
  spots_legal obey ps all apart =
      berths-legal d case spots
      (record {
        count = are.count;
        berth = λ i h. (are.each i h).berth;
        y = λ i h. (are.each i h).y;
        host = λ i k h e. host-known-of i k h e;
        along = obey;
        apart = λ i j less h o. along i j (omega (arith, less, h)) h (all.each i j less h o);
      })
      whole.ranks whole.across
    where
      along : (i j : ℕ) → i < length d.ships → j < length d.ships → IsAmong ps (pair i j) ⊎ (HasOrder case i j ⊎ HasOrder case j i) → ((spot_at spots i).x + length_at d i + d.gap ≤ (spot_at spots j).x) ⊎ ((spot_at spots j).x + length_at d j + d.gap ≤ (spot_at spots i).x)
      along i j hi hj (inl h) = elim (among_apart d values ps (pair i j) apart h) [ inl b ↦ inl (apart-at i j hi hj b) | inr b ↦ inr (apart-at j i hj hi b) ]
      along i j hi hj (inr (inl h)) = inl (obey.order i j h)
      along i j hi hj (inr (inr h)) = inr (obey.order j i h)

-- ---- a pair that isn't apart has no order yet

module _ (d : Deck) (case : List Choice) (values : List ℤ) (x : ℕ → ℕ) (at : AreValuesOf d values x) (obey : ObeyAlong d case x) where
  order-before : (i j : ℕ) → i < length d.ships → j < length d.ships → HasOrder case i j → IsBeforeAt d values i j
  order-before i j hi hj h =
      let own = at.value i hi in
      let other = at.value j hj in
      let far = obey.order i j h in
      record { before = omega (arith, ints, own, other, far) }

  pub touching_open : (ps : List Pair) (number : ℕ) → ArePairs d case ps → AreNotApart d values ps number → AreUnordered d case (pair_at ps number).lower (pair_at ps number).upper
  touching_open ps number pairs touching =
      let p = pair_at ps number in
      let is = pair_number d case ps number pairs touching.known in
      let rising = is.rising in
      let upper = is.known in
      record {
        different = λ e. omega (arith, rising, e);
        overlap = is.overlap;
        not_before = λ h. touching.touching (inl (order-before p.lower p.upper (omega (arith, rising, upper)) upper h));
        not_after = λ h. touching.touching (inr (order-before p.upper p.lower upper (omega (arith, rising, upper)) h));
      }
