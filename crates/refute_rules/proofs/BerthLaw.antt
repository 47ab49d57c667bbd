-- A deck with a berth tree has no legal placement.
use Rattle.std.proofs.Common.{◌≡◌, ◌≢◌, ℕ, zero, suc, ◌+◌, ◌-◌, ◌^◌, ◌/◌, ◌%◌, ◌<◌, ◌≤◌, List, [], ◌∷◌, ◌++◌, length, ◌⊎◌, inl, inr, refl, sym, ap, ◌∙◌, subst, arith, Some, None, Bool, true, nat_eq}
use Rattle.std.proofs.lemmas.Bool.{false≢true}
use Rattle.std.proofs.lemmas.Option.{none-some, same_Some}
use Rattle.std.specs.declared.option.Option.{Option}
use Rattle.std.proofs.lemmas.Int.{ints}
use Rattle.std.proofs.lemmas.Bool.Decides.{eqb_tells, leb_tells}
use Rattle.std.proofs.lemmas.List.Elements.{All-contains, All-from_recursion}
use Rattle.std.specs.List.{AllByRecursion}
use Rattle.list_laws.proofs.ByRecursion.{all-append}
use Rattle.lock_model.specs.Deck.{Deck, IsDeck, size_at, no_size}
use Rattle.lock_model.specs.Placement.{IsLegalPlacement, spot_at, IsAtHost, IsAtSide}
use Rattle.lock_model.specs.Fitting.{Fits}
use Rattle.lock_model.specs.declared.placement.Spot.{Spot}
use Rattle.lock_model.specs.declared.placement.Rank.{Rank}
use Rattle.lock_model.specs.declared.placement.Rank.TheVariants.{Left, Right}
use Rattle.lock_model.specs.declared.placement.Moor.{Moor}
use Rattle.lock_model.specs.declared.placement.Moor.TheVariants.{Quay, Ship}
use Rattle.lock_rules.specs.Arrival.{numbers_from}
use Rattle.refute_rules.specs.Reasons.{length_at, width_at}
use Rattle.refute_rules.specs.declared.choices.Berth.{Berth}
use Rattle.refute_rules.specs.declared.choices.Choice.{Choice}
use Rattle.refute_rules.specs.declared.choices.Choice.TheVariants.{Before}
use Rattle.refute_rules.specs.Decided.{berth_in}
use Rattle.refute_rules.specs.Known.{host_of, moor_host}
use Rattle.refute_rules.specs.SpotFaults as spot
use Rattle.list_laws.specs.Among.{IsAmong}
use Rattle.refute_rules.proofs.Among.{all-weaker, all-numbers}
use Rattle.refute_rules.proofs.TreeLemmas.{in_order-one}
use Rattle.refute_rules.proofs.CaseLemmas.{IsGoodChoice, IsGoodCase, berth-told, moored-as, berth-goes_on}
use Rattle.refute_rules.proofs.SpotLemmas.{y-told, no_spot_fault}
use Rattle.refute_rules.proofs.Packing.{Each, all-filter, each-filter, each-weaker, AreSplit, IsWithin, packed}
use Rattle.refute_rules.proofs.ReasonLemmas.{total-sum, each-from_pairs, x_of, y_of, long_of, wide_of, parted, within_along}
use Rattle.refute_rules.specs.BerthCases.{host_in, HasOrder, DoOverlap, ShareHost, is_ship, guests_of, ObeyAlong}
use Rattle.refute_rules.specs.BerthFaults.{IsTooLong, AreTooMany, ships_in, IsCrowd, BerthFault, OtherRank, LeadsBack, TooLong, Outside, Guests, Crowd, NoPlaces, IsBerthFault}
use Rattle.refute_rules.specs.BerthTrees.{Split, OfBerth, OfOrder, IsOpen, split_options, IsTreeWithin, IsBerthTree}

-- a host that is ship k
ship-told : (k : ℕ) (o : Option ℕ) → is_ship k o ≡ true → o ≡ Some k
ship-told k None e = absurd (false≢true e)
ship-told k (Some j) e = elim (eqb_tells j k) [ inl y ↦ ap Some y.1 | inr n ↦ absurd (false≢true (sym n.0 ∙ e)) ]

numbers-rise : (low n : ℕ) → Each (λ i j. i < j) (numbers_from low n)
numbers-rise low zero = tt
numbers-rise low (suc n) = (all-weaker (λ k. (suc low ≤ k) × (k < suc low + n)) (λ k. low < k) (λ k h. omega (arith, h.0)) (numbers_from (suc low) n) (all-numbers (suc low) n), numbers-rise (suc low) n)

numbers-below : (n : ℕ) → AllByRecursion (λ k. k < n) (numbers_from 0 n)
numbers-below n = all-weaker (λ k. (0 ≤ k) × (k < 0 + n)) (λ k. k < n) (λ k h. omega (arith, h.1)) (numbers_from 0 n) (all-numbers 0 n)

each-both : {X : Type 0} (R S : X → X → Type 0) (xs : List X) → Each R xs → Each S xs → Each (λ x y. R x y × S x y) xs
each-both R S [] r s = tt
each-both {X} R S (x ∷ xs) r s = (both xs r.0 s.0, each-both R S xs r.1 s.1)
  where
    both : (ys : List X) → AllByRecursion (R x) ys → AllByRecursion (S x) ys → AllByRecursion (λ y. R x y × S x y) ys
    both [] p q = tt
    both (y ∷ ys) p q = ((p.0, q.0), both ys p.1 q.1)

-- an order of a case that the spots obey
order-told : (d : Deck) (spots : List Spot) (case : List Choice) → IsGoodCase d spots case → (i j : ℕ) → HasOrder case i j → (spot_at spots i).x + length_at d i + d.gap ≤ (spot_at spots j).x
order-told d spots case good i j h = (All-contains (IsGoodChoice d spots) case (Before i j) (All-from_recursion (IsGoodChoice d spots) case good) h).0

some-ship : (n set : ℕ) → 1 ≤ set → set < 2 ^ n → 1 ≤ n
some-ship zero set a b = absurd (omega (arith, a, b))
some-ship (suc n) set a b = omega arith

module _ (d : Deck) (spots : List Spot) (legal : IsLegalPlacement d spots) (wide : (i : ℕ) → i < length d.ships → 1 ≤ width_at d i) where
  -- what a decided host says
  pub record IsGuest (k i : ℕ) : Type 0 where
    pub guest : i < length d.ships
    pub host : k < length d.ships
    pub at : IsAtHost d (size_at d i) (spot_at spots i) (size_at d k) (spot_at spots k)

  guest-moored : (case : List Choice) → IsGoodCase d spots case → (i k : ℕ) (b : Berth) (m : Moor) → b.moor ≡ m → berth_in case i ≡ Some b → moor_host m ≡ Some k → IsGuest k i
  guest-moored case good i k b Quay e f h = absurd (none-some k h)
  guest-moored case good i k b (Ship j) e f h =
      let own = berth-told d spots case good i b f in
      let at = moored-as d spots legal i (Ship j) own.2 (own.1 ∙ e) in
      subst (λ u. IsGuest u i) (same_Some j k h) (record { guest = own.2; host = at.0; at = at.2 })

  guest-berthed : (case : List Choice) → IsGoodCase d spots case → (i k : ℕ) (o : Option Berth) → berth_in case i ≡ o → host_of o ≡ Some k → IsGuest k i
  guest-berthed case good i k None e h = absurd (none-some k h)
  guest-berthed case good i k (Some b) e h = guest-moored case good i k b b.moor refl e h

  pub guest-told : (case : List Choice) → IsGoodCase d spots case → (i k : ℕ) → host_in case i ≡ Some k → IsGuest k i
  guest-told case good i k h = guest-berthed case good i k (berth_in case i) refl h

  -- two ships are apart along, or across
  abbrev AreAlong : ℕ → ℕ → Type 0
  AreAlong = AreSplit (x_of d spots legal) (long_of d spots legal)

  abbrev AreAcross : ℕ → ℕ → Type 0
  AreAcross = AreSplit (y_of d spots legal) (wide_of d spots legal)

  swapped : (a m : ℕ → ℕ) (i j : ℕ) → AreSplit a m j i → AreSplit a m i j
  swapped a m i j (inl h) = inr h
  swapped a m i j (inr h) = inl h

  apart-two : (i j : ℕ) → i ≢ j → i < length d.ships → j < length d.ships → AreAlong i j ⊎ AreAcross i j
  apart-two i j differ ki kj =
      elim (leb_tells (suc i) j) [
        | inl y ↦ parted d spots legal i j y.1 kj
        | inr n ↦ elim (parted d spots legal j i (omega (arith, n.1, differ)) ki) [
          | inl h ↦ inl (swapped (x_of d spots legal) (long_of d spots legal) i j h)
          | inr h ↦ inr (swapped (y_of d spots legal) (wide_of d spots legal) i j h)
        ]
      ]

  -- two guests of rank r at one host aren't apart across
  same-edge : (r : Rank) (i j k : ℕ) → 1 ≤ width_at d i → 1 ≤ width_at d j → IsAtSide d (size_at d i) (spot_at spots i) (size_at d k) (spot_at spots k) r → IsAtSide d (size_at d j) (spot_at spots j) (size_at d k) (spot_at spots k) r → AreAcross i j → ⊥
  same-edge Left i j k wi wj a b (inl h) = omega (arith, wi, wj, a, b, h)
  same-edge Left i j k wi wj a b (inr h) = omega (arith, wi, wj, a, b, h)
  same-edge Right i j k wi wj a b (inl h) = omega (arith, wi, wj, a, b, h)
  same-edge Right i j k wi wj a b (inr h) = omega (arith, wi, wj, a, b, h)

  guest-side : (i k : ℕ) → IsGuest k i → IsAtSide d (size_at d i) (spot_at spots i) (size_at d k) (spot_at spots k) (spot_at spots k).rank
  guest-side i k g = subst (IsAtSide d (size_at d i) (spot_at spots i) (size_at d k) (spot_at spots k)) (sym g.at.rank) g.at.beside

  guests-along : (i j k : ℕ) → i ≢ j → IsGuest k i → IsGuest k j → AreAlong i j
  guests-along i j k differ a b =
      elim (apart-two i j differ a.guest b.guest) [
        | inl h ↦ h
        | inr h ↦ absurd (same-edge (spot_at spots k).rank i j k (wide i a.guest) (wide j b.guest) (guest-side i k a) (guest-side j k b) h)
      ]

  module _ (case : List Choice) (good : IsGoodCase d spots case) where
    not_across : (i j : ℕ) → DoOverlap d case i j → AreAcross i j → ⊥
    not_across i j o (inl h) =
        let yi = (y-told d spots legal wide case good (length d.ships) i o.yi o.known_i).0 in
        let yj = (y-told d spots legal wide case good (length d.ships) j o.yj o.known_j).0 in
        o.not_below (omega (arith, ints, yi, yj, h))
    not_across i j o (inr h) =
        let yi = (y-told d spots legal wide case good (length d.ships) i o.yi o.known_i).0 in
        let yj = (y-told d spots legal wide case good (length d.ships) j o.yj o.known_j).0 in
        o.not_above (omega (arith, ints, yi, yj, h))

    overlap-along : (i j : ℕ) → i ≢ j → DoOverlap d case i j → AreAlong i j
    overlap-along i j differ o =
        let ki = (y-told d spots legal wide case good (length d.ships) i o.yi o.known_i).1 in
        let kj = (y-told d spots legal wide case good (length d.ships) j o.yj o.known_j).1 in
        elim (apart-two i j differ ki kj) [ inl h ↦ h | inr h ↦ absurd (not_across i j o h) ]

    close-along : (i j : ℕ) → i ≢ j → DoOverlap d case i j ⊎ ShareHost case i j → AreAlong i j
    close-along i j differ (inl o) = overlap-along i j differ o
    close-along i j differ (inr s) = guests-along i j s.host differ (guest-told case good i s.host s.of_i) (guest-told case good j s.host s.of_j)

    not_too_long : (i : ℕ) → IsTooLong d case i → ⊥
    not_too_long i h =
        let g = guest-told case good i h.host h.lies in
        let near = g.at.near in
        let far = g.at.far in
        let longer = h.longer in
        omega (arith, near, far, longer)

    -- the guests of a ship lie within it
    guest-within : (k i : ℕ) → IsGuest k i → IsWithin (x_of d spots legal) (long_of d spots legal) (spot_at spots k).x ((spot_at spots k).x + length_at d k + d.gap) i
    guest-within k i g = let near = g.at.near in let far = g.at.far in (near, omega (arith, far))

    not_too_many : (k : ℕ) → AreTooMany d case k → ⊥
    not_too_many k h =
        let test : ℕ → Bool = λ i. is_ship k (host_in case i) in
        let n = length d.ships in
        let told : AllByRecursion (IsGuest k) (guests_of d case k) =
        all-weaker (λ i. (i < n) × (test i ≡ true)) (IsGuest k) (λ i u. guest-told case good i k (ship-told k (host_in case i) u.1)) (guests_of d case k) (all-filter (λ i. i < n) test (numbers_from 0 n) (numbers-below n)) in
        let along : Each AreAlong (guests_of d case k) =
        each-weaker (λ i j. i < j) AreAlong (IsGuest k) (λ i j a b less. guests-along i j k (λ e. omega (arith, e, less)) a b) (guests_of d case k) told (each-filter (λ i j. i < j) test (numbers_from 0 n) (numbers-rise 0 n)) in
        let low = (spot_at spots k).x in
        let high = (spot_at spots k).x + length_at d k + d.gap in
        let order : low ≤ high = omega arith in
        let fits = packed (x_of d spots legal) (long_of d spots legal) (length (guests_of d case k)) (guests_of d case k) low high (omega arith) order
        (all-weaker (IsGuest k) (IsWithin (x_of d spots legal) (long_of d spots legal) low high) (guest-within k) (guests_of d case k) told) along in
        let sum = total-sum (long_of d spots legal) (guests_of d case k) in
        let long = h.long in
        omega (arith, fits, sum, long)

    no_crowd : (set : ℕ) → IsCrowd d case set → ⊥
    no_crowd set h =
        let n = length d.ships in
        let test : ℕ → Bool = λ i. nat_eq (set / 2 ^ i % 2) 1 in
        let known : AllByRecursion (λ i. i < n) (ships_in n set) =
        all-weaker (λ i. (i < n) × (test i ≡ true)) (λ i. i < n) (λ i u. u.0) (ships_in n set) (all-filter (λ i. i < n) test (numbers_from 0 n) (numbers-below n)) in
        let rise : Each (λ i j. i < j) (ships_in n set) = each-filter (λ i j. i < j) test (numbers_from 0 n) (numbers-rise 0 n) in
        let close : Each (λ i j. DoOverlap d case i j ⊎ ShareHost case i j) (ships_in n set) = each-from_pairs (λ i j. DoOverlap d case i j ⊎ ShareHost case i j) (ships_in n set) h.close in
        let along : Each AreAlong (ships_in n set) =
        each-weaker (λ i j. (i < j) × (DoOverlap d case i j ⊎ ShareHost case i j)) AreAlong (λ i. i < n) (λ i j a b u. close-along i j (λ e. omega (arith, e, u.0)) u.1) (ships_in n set) known
        (each-both (λ i j. i < j) (λ i j. DoOverlap d case i j ⊎ ShareHost case i j) (ships_in n set) rise close) in
        let first : 0 < n = some-ship n set h.some h.known in
        let inside = legal.inside 0 first in
        let low = d.end in
        let high = d.length - d.end + d.gap in
        let order : low ≤ high = omega (arith, inside.0, inside.1) in
        let fits = packed (x_of d spots legal) (long_of d spots legal) (length (ships_in n set)) (ships_in n set) low high (omega arith) order
        (all-weaker (λ i. i < n) (IsWithin (x_of d spots legal) (long_of d spots legal) low high) (within_along d spots legal) (ships_in n set) known) along in
        let sum = total-sum (long_of d spots legal) (ships_in n set) in
        let long = h.long in
        omega (arith, fits, sum, long, inside.0, inside.1)

    -- the x of a legal placement obey the case
    places : ObeyAlong d case (x_of d spots legal)
    places = record {
      inside = λ i known. let h = legal.inside i known in (h.0, h.1);
      within = λ i k e. let g = guest-told case good i k e in (g.at.near, g.at.far);
      order = order-told d spots case good;
    }

    no_berth_fault : (fault : BerthFault) → IsBerthFault d case fault → ⊥
    no_berth_fault (OtherRank i) h = no_spot_fault d spots legal wide case good (spot.OtherRank i) h
    no_berth_fault (LeadsBack i) h = no_spot_fault d spots legal wide case good (spot.LeadsBack i) h
    no_berth_fault (TooLong i) h = not_too_long i h
    no_berth_fault (Outside i) h = no_spot_fault d spots legal wide case good (spot.Outside i) (inr h)
    no_berth_fault (Guests k) h = not_too_many k h
    no_berth_fault (Crowd set) h = no_crowd set h
    no_berth_fault NoPlaces h = h (x_of d spots legal) places

    order-chosen : (i j : ℕ) → AreAlong i j → (choice : Choice) × IsAmong (split_options d (OfOrder i j)) choice × IsGoodCase d spots (case ++ choice ∷ [])
    order-chosen i j (inl h) = let g : (spot_at spots i).x + length_at d i + d.gap ≤ (spot_at spots j).x = omega (arith, h) in (Before i j, inl refl, all-append (IsGoodChoice d spots) case (Before i j ∷ []) good ((g, tt), tt))
    order-chosen i j (inr h) = let g : (spot_at spots j).x + length_at d j + d.gap ≤ (spot_at spots i).x = omega (arith, h) in (Before j i, inr (inl refl), all-append (IsGoodChoice d spots) case (Before j i ∷ []) good ((g, tt), tt))

    -- one option of each open split is true of the placement
    chosen : (split : Split) → IsOpen d case split → (choice : Choice) × IsAmong (split_options d split) choice × IsGoodCase d spots (case ++ choice ∷ [])
    chosen (OfBerth i) open' = berth-goes_on d spots legal i case open'.0 good
    chosen (OfOrder i j) open' = order-chosen i j (overlap-along i j open'.different open'.overlap)

  -- a case that the placement obeys has no tree
  no_tree : (depth : ℕ) (case : List Choice) (marks rest : List ℕ) → IsGoodCase d spots case → IsTreeWithin d depth case marks rest → ⊥
  no_tree zero case marks rest good leaf = no_berth_fault case good leaf.0 leaf.1
  no_tree (suc depth) case marks rest good (inl leaf) = no_berth_fault case good leaf.0 leaf.1
  no_tree (suc depth) case marks rest good (inr h) =
      let way = chosen case good h.0 h.1 in
      let one = in_order-one (λ choice. IsTreeWithin d depth (case ++ choice ∷ [])) (split_options d h.0) h.2 rest way.0 h.4 way.1 in
      no_tree depth (case ++ way.0 ∷ []) one.0 one.1 way.2 one.2

-- a deck with a berth tree doesn't fit
pub no_berth_tree : (d : Deck) (marks : List ℕ) → IsDeck d → IsBerthTree d marks → (spots : List Spot) → IsLegalPlacement d spots → ⊥
no_berth_tree d marks good tree spots legal = no_tree d spots legal (λ i known. (good.sizes i no_size known).wide.0) tree.0 [] marks [] tt tree.1

pub berth_tree-unfit : (d : Deck) (marks : List ℕ) → IsDeck d → IsBerthTree d marks → Fits d → ⊥
berth_tree-unfit d marks good tree fits = no_berth_tree d marks good tree fits.placed.0 fits.placed.1
