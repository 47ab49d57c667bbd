-- What the type of a spot case keeps, when the case grows and shrinks.
use Rattle.std.proofs.Common.{◌≡◌, ℕ, zero, suc, ◌+◌, ◌-◌, ◌<◌, ◌≤◌, ℤ, List, [], ◌∷◌, ◌++◌, length, take, inl, inr, refl, sym, ap, ◌∙◌, subst, arith, slice_index_or, Option, Some, None, IfSome}
use Rattle.std.proofs.lemmas.Bool.Decides.{eqb_tells, leb_tells}
use Rattle.std.proofs.lemmas.List.{take-append-le, take-take, length-take-le, get_or_default}
use Rattle.std.proofs.Math.Seq.{take-length, get_or-append_seam}
use Rattle.std.proofs.Math.ListN.{get_or-append}
use Rattle.std.proofs.lemmas.Option.{none-some}
use Rattle.list_laws.proofs.Lists.{length-push}
use Rattle.lock_model.specs.Deck.{Deck}
use Rattle.refute_rules.specs.declared.choices.Choice.{Choice}
use Rattle.refute_rules.specs.declared.choices.Choice.TheVariants.{Lies, LiesAt}
use Rattle.refute_rules.specs.Choices.{IsKnownMoor}
use Rattle.refute_rules.specs.Decided.{berth_in, x_in}
use Rattle.refute_rules.specs.Known.{host_of, host_and_more, hosts_within, berth_y, y_within, y_in}
use Rattle.refute_rules.specs.SpotFaults.{IsFaultless}
use Rattle.refute_rules.specs.Spots.{IsListed}
use Rattle.refute_rules.specs.declared.choices.Berth.{Berth}
use Rattle.spot_place.specs.OnWay.{berth_at, case_of, lying, AreKnown}
use Rattle.spot_place.specs.Heights.{height_at, AreHeights}
use Rattle.spot_place.specs.SpotCase.{OnWay, case_on, IsOnWay, AreLevels, KeepsSpotCase}
use Rattle.spot_place.proofs.CaseLemmas.{berth-hit, berth-miss, place-hit, place-miss, host_hit, host_miss, ship-of}
use Rattle.spot_place.proofs.StepLemmas.{case-length, push-berth, push-place, pop-berth, pop-place, listed-more, listed-less}

-- ---- lists

pub take-at : {X : Type 0} (xs : List X) (n i : ℕ) (a : X) → i < n → slice_index_or (take n xs) i a ≡ slice_index_or xs i a
take-at xs zero i a h = absurd (omega (arith, h))
take-at [] (suc n) i a h = refl
take-at (x ∷ xs) (suc n) zero a h = refl
take-at (x ∷ xs) (suc n) (suc i) a h = take-at xs n i a (omega (arith, h))

-- ---- the berths tell hosts and y

pub y-same : (d : Deck) (c e : List Choice) → ((i : ℕ) → berth_in c i ≡ berth_in e i) → (steps i : ℕ) → y_within d c steps i ≡ y_within d e steps i
y-same d c e same zero i = refl
y-same d c e same (suc steps) i = λ t. berth_y d i (same i t) (λ k. y-same d c e same steps k t)

pub hosts-same : (c e : List Choice) → ((i : ℕ) → berth_in c i ≡ berth_in e i) → (steps i : ℕ) → hosts_within c steps i ≡ hosts_within e steps i
hosts-same c e same zero i = refl
hosts-same c e same (suc steps) i = λ t. host_and_more (host_of (same i t)) (λ k. hosts-same c e same steps k t)

pub berths-same : (ms : List Berth) (xs ys : List ℕ) (i : ℕ) → berth_in (case_of ms xs) i ≡ berth_in (case_of ms ys) i
berths-same ms xs ys i = elim (leb_tells (suc i) (length ms)) [
  | inl y ↦ berth-hit ms xs i y.1 ∙ sym (berth-hit ms ys i y.1)
  | inr n ↦ let late : length ms ≤ i = omega (arith, n.1) in berth-miss ms xs i late ∙ sym (berth-miss ms ys i late)
]

-- ---- hosts

-- a decided host is a ship of the deck
pub host-in_deck : (d : Deck) (ms : List Berth) → AreKnown d ms → (i k : ℕ) → host_of (berth_in (lying ms) i) ≡ Some k → k < length d.ships
host-in_deck d ms known i k e = elim (leb_tells (suc i) (length ms)) [
  | inl y ↦ subst (IsKnownMoor d) (ship-of (berth_at ms i).moor k (sym (host_hit ms i y.1) ∙ e)) (known.each i y.1)
  | inr n ↦ absurd (none-some k (sym (host_miss ms i (omega (arith, n.1))) ∙ e))
]

-- ---- what is kept

module _ (d : Deck) (values : List ℕ) (ms : List Berth) (xs : List ℕ) (levels : List (List (Option ℤ))) (kept : KeepsSpotCase d values ms xs levels) where
  known-more : (m : Berth) → IsKnownMoor d m.moor → AreKnown d (ms ++ m ∷ [])
  known-more m known = record { each = each }
    where
      each : (i : ℕ) → i < length (ms ++ m ∷ []) → IsKnownMoor d (berth_at (ms ++ m ∷ []) i).moor
      each i h =
          let count = length-push ms m in
          elim (eqb_tells i (length ms)) [
            | inl y ↦ subst (λ (n : Berth). IsKnownMoor d n.moor) (sym (ap (berth_at (ms ++ m ∷ [])) y.1 ∙ get_or-append_seam ms m [] _)) known
            | inr n ↦ let less : i < length ms = omega (arith, h, count, n.1) in subst (λ (n : Berth). IsKnownMoor d n.moor) (sym (get_or-append ms (m ∷ []) _ i less)) (kept.way.known.each i less)
          ]

  levels-more : (m : Berth) (heights : List (Option ℤ)) → AreHeights d (lying (ms ++ m ∷ [])) heights → AreLevels d (ms ++ m ∷ []) (levels ++ heights ∷ [])
  levels-more m heights are = record {
    count = length-push levels heights ∙ ap suc (kept.known.count ∙ sym (length-push ms m));
    each = each;
  }
    where
      old : (k : ℕ) → k ≤ length ms → AreHeights d (lying (take k (ms ++ m ∷ []))) (slice_index_or (levels ++ heights ∷ []) k [])
      old k h =
          let count = kept.known.count in
          let less : k < length levels = omega (arith, count, h) in
          subst (λ ns. AreHeights d (lying ns) (slice_index_or (levels ++ heights ∷ []) k [])) (sym (take-append-le k ms (m ∷ []) h))
          (subst (AreHeights d (lying (take k ms))) (sym (get_or-append levels (heights ∷ []) [] k less)) (kept.known.each k h))

      latest : AreHeights d (lying (take (length levels) (ms ++ m ∷ []))) (slice_index_or (levels ++ heights ∷ []) (length levels) [])
      latest =
          let all : take (length levels) (ms ++ m ∷ []) ≡ ms ++ m ∷ [] = ap (λ n. take n (ms ++ m ∷ [])) (kept.known.count ∙ sym (length-push ms m)) ∙ take-length (ms ++ m ∷ []) in
          subst (λ ns. AreHeights d (lying ns) (slice_index_or (levels ++ heights ∷ []) (length levels) [])) (sym all)
          (subst (AreHeights d (lying (ms ++ m ∷ []))) (sym (get_or-append_seam levels heights [] [])) are)

      each : (k : ℕ) → k ≤ length (ms ++ m ∷ []) → AreHeights d (lying (take k (ms ++ m ∷ []))) (slice_index_or (levels ++ heights ∷ []) k [])
      each k h =
          let count = length-push ms m in
          let levelled = kept.known.count in
          elim (eqb_tells k (length levels)) [
            | inl y ↦ subst (λ n. AreHeights d (lying (take n (ms ++ m ∷ []))) (slice_index_or (levels ++ heights ∷ []) n [])) (sym y.1) latest
            | inr n ↦ old k (omega (arith, h, count, levelled, n.1))
          ]

  moored : (m : Berth) (heights : List (Option ℤ)) → length ms < length d.ships → length ms ≡ length xs → IsKnownMoor d m.moor → IsFaultless d (case_of ms xs) → AreHeights d (lying (ms ++ m ∷ [])) heights → KeepsSpotCase d values (ms ++ m ∷ []) xs (levels ++ heights ∷ [])
  moored m heights room step known good are =
      let count = length-push ms m in
      record {
        limits = kept.limits;
        valued = kept.valued;
        way = record {
          ships = omega (arith, count, room);
          behind = omega (arith, count, step);
          ahead = omega (arith, count, step);
          known = known-more m known;
          listed = subst (IsListed d) (sym (push-berth ms xs m step)) (listed-more d (case_of ms xs) (Lies (length ms) m) kept.way.listed good);
        };
        known = levels-more m heights are;
      }

  placed : (x : ℕ) → length ms ≡ suc (length xs) → IsFaultless d (case_of ms xs) → KeepsSpotCase d values ms (xs ++ x ∷ []) levels
  placed x step good =
      let count = length-push xs x in
      record {
        limits = kept.limits;
        valued = kept.valued;
        way = record {
          ships = kept.way.ships;
          behind = omega (arith, count, step);
          ahead = omega (arith, count, step);
          known = kept.way.known;
          listed = subst (IsListed d) (sym (push-place ms xs x step)) (listed-more d (case_of ms xs) (LiesAt (length xs) x) kept.way.listed good);
        };
        known = kept.known;
      }

  unmoored : (n : ℕ) → length ms ≡ suc n → length xs ≡ n → KeepsSpotCase d values (take n ms) xs (take (suc n) levels)
  unmoored n berths places =
      let count = length-take-le n ms (omega (arith, berths)) in
      let long = case-length ms xs (omega (arith, berths, places)) in
      let ships = kept.way.ships in
      record {
        limits = kept.limits;
        valued = kept.valued;
        way = record {
          ships = omega (arith, count, berths, ships);
          behind = omega (arith, count, places);
          ahead = omega (arith, count, places);
          known = record { each = λ i h. let less : i < n = omega (arith, h, count) in subst (λ (m : Berth). IsKnownMoor d m.moor) (sym (take-at ms n i _ less)) (kept.way.known.each i (omega (arith, less, berths))) };
          listed = subst (IsListed d) (sym (pop-berth n ms xs berths places)) (listed-less d (case_of ms xs) (n + n) (omega (arith, long, berths, places)) kept.way.listed);
        };
        known = record { count = length-take-le (suc n) levels (let levelled = kept.known.count in omega (arith, levelled, berths)) ∙ ap suc (sym count); each = each };
      }
    where
      each : (k : ℕ) → k ≤ length (take n ms) → AreHeights d (lying (take k (take n ms))) (slice_index_or (take (suc n) levels) k [])
      each k h =
          let count = length-take-le n ms (omega (arith, berths)) in
          let few : k ≤ n = omega (arith, h, count) in
          subst (λ ns. AreHeights d (lying ns) (slice_index_or (take (suc n) levels) k [])) (sym (take-take k n ms few))
          (subst (AreHeights d (lying (take k ms))) (sym (take-at levels (suc n) k [] (omega (arith, few)))) (kept.known.each k (omega (arith, few, berths))))

  unplaced : (n : ℕ) → length ms ≡ suc n → length xs ≡ suc n → KeepsSpotCase d values ms (take n xs) levels
  unplaced n berths places =
      let count = length-take-le n xs (omega (arith, places)) in
      let long = case-length ms xs (omega (arith, berths, places)) in
      record {
        limits = kept.limits;
        valued = kept.valued;
        way = record {
          ships = kept.way.ships;
          behind = omega (arith, count, berths);
          ahead = omega (arith, count, berths);
          known = kept.way.known;
          listed = subst (IsListed d) (sym (pop-place n ms xs berths places)) (listed-less d (case_of ms xs) (suc (n + n)) (omega (arith, long, berths, places)) kept.way.listed);
        };
        known = kept.known;
      }

  -- the last level keeps what is known
  level-now : (level : List (Option ℤ)) (n i : ℕ) → n ≡ length ms → level ≡ slice_index_or levels n level → i < length d.ships → height_at level i ≡ y_in d (case_of ms xs) i
  level-now level n i e is known =
      let levelled = kept.known.count in
      let less : length ms < length levels = omega (arith, levelled) in
      let now : level ≡ slice_index_or levels (length ms) [] = is ∙ ap (λ k. slice_index_or levels k level) e ∙ get_or_default levels (length ms) level [] less in
      ap (λ hs. height_at hs i) now
      ∙ (kept.known.each (length ms) (omega arith)).each i known
      ∙ ap (λ ns. y_in d (lying ns) i) (take-length ms)
      ∙ y-same d (lying ms) (case_of ms xs) (berths-same ms [] xs) (length d.ships) i

-- ---- through what the type shows

module _ (d : Deck) (values : List ℕ) (ms : List Berth) (xs : List ℕ) (levels : List (List (Option ℤ))) (kept : KeepsSpotCase d values ms xs levels) (s : OnWay) (shows : record { deck = d; berths = ms; places = xs } ≡ s) where
  pub kept-moored : (m : Berth) (more : List Berth) (heights : List (Option ℤ)) (further : List (List (Option ℤ))) → length s.berths < length s.deck.ships → length s.berths ≡ length s.places → IsKnownMoor s.deck m.moor → IsFaultless s.deck (case_on s) → more ≡ ms ++ m ∷ [] → AreHeights d (lying more) heights → further ≡ levels ++ heights ∷ [] → KeepsSpotCase d values more xs further
  kept-moored m more heights further room step known good e are f =
      subst (λ (u : OnWay). length u.berths < length u.deck.ships → length u.berths ≡ length u.places → IsKnownMoor u.deck m.moor → IsFaultless u.deck (case_on u) → KeepsSpotCase d values more xs further) shows
      (λ room step known good. subst (λ ns. KeepsSpotCase d values ns xs further) (sym e) (subst (KeepsSpotCase d values (ms ++ m ∷ []) xs) (sym f) (moored d values ms xs levels kept m heights room step known good (subst (λ ns. AreHeights d (lying ns) heights) e are))))
      room step known good

  pub kept-placed : (x : ℕ) (more : List ℕ) → length s.berths ≡ suc (length s.places) → IsFaultless s.deck (case_on s) → more ≡ xs ++ x ∷ [] → KeepsSpotCase d values ms more levels
  kept-placed x more step good e =
      subst (λ (u : OnWay). length u.berths ≡ suc (length u.places) → IsFaultless u.deck (case_on u) → KeepsSpotCase d values ms more levels) shows
      (λ step good. subst (λ ys. KeepsSpotCase d values ms ys levels) (sym e) (placed d values ms xs levels kept x step good))
      step good

  pub kept-height : (level : List (Option ℤ)) (n i : ℕ) → n ≡ length ms → level ≡ slice_index_or levels n level → i < length s.deck.ships → height_at level i ≡ y_in s.deck (case_on s) i
  kept-height level n i e is known =
      subst (λ (u : OnWay). i < length u.deck.ships → height_at level i ≡ y_in u.deck (case_on u) i) shows
      (λ known. level-now d values ms xs levels kept level n i e is known)
      known

  pub kept-unmoored : (n : ℕ) (fewer : List Berth) (lower : List (List (Option ℤ))) → n ≡ length xs → length s.berths ≡ suc (length s.places) → fewer ≡ take n ms → lower ≡ take (n + 1) levels → KeepsSpotCase d values fewer xs lower
  kept-unmoored n fewer lower a b e f =
      let next : n + 1 ≡ suc n = omega arith in
      subst (λ (u : OnWay). length u.berths ≡ suc (length u.places) → KeepsSpotCase d values fewer xs lower) shows
      (λ b. subst (λ ns. KeepsSpotCase d values ns xs lower) (sym e) (subst (KeepsSpotCase d values (take n ms) xs) (sym (f ∙ ap (λ k. take k levels) next)) (unmoored d values ms xs levels kept n (b ∙ ap suc (sym a)) (sym a))))
      b

  pub kept-unplaced : (n : ℕ) (fewer : List ℕ) → n ≡ length xs - 1 → 0 < length s.places → length s.berths ≡ length s.places → fewer ≡ take n xs → KeepsSpotCase d values ms fewer levels
  kept-unplaced n fewer a some b e =
      subst (λ (u : OnWay). 0 < length u.places → length u.berths ≡ length u.places → KeepsSpotCase d values ms fewer levels) shows
      (λ some b. subst (λ ys. KeepsSpotCase d values ms ys levels) (sym e) (unplaced d values ms xs levels kept n (omega (arith, a, b, some)) (omega (arith, a, some))))
      some b

  pub shown-way : IsOnWay s.deck s.berths s.places
  shown-way = subst (λ (u : OnWay). IsOnWay u.deck u.berths u.places) shows kept.way

  pub shown-deck : d ≡ s.deck
  shown-deck = ap (λ (u : OnWay). u.deck) shows

  pub shown-x : (i : ℕ) → i < length s.places → x_in (case_on s) i ≡ Some (slice_index_or xs i 0)
  shown-x i h = subst (λ (u : OnWay). i < length u.places → x_in (case_on u) i ≡ Some (slice_index_or xs i 0)) shows (λ h. place-hit ms xs i kept.way.behind h) h

  pub shown-no_x : (n i : ℕ) → n ≡ length xs → n ≤ i → x_in (case_on s) i ≡ None
  shown-no_x n i e h = subst (λ (u : OnWay). x_in (case_on u) i ≡ None) shows (place-miss ms xs i (omega (arith, e, h)))

  pub shown-ship : (i : ℕ) → i < length s.places → i < length s.deck.ships
  shown-ship i h = let way = shown-way in omega (arith, h, way.behind, way.ships)

  pub shown-host : (i : ℕ) → host_of (berth_in (lying ms) i) ≡ host_of (berth_in (case_on s) i)
  shown-host i = subst (λ (u : OnWay). host_of (berth_in (lying ms) i) ≡ host_of (berth_in (case_on u) i)) shows (ap host_of (berths-same ms [] xs i))

  pub shown-host_known : (o : Option ℕ) (i : ℕ) → o ≡ host_of (berth_in (lying ms) i) → IfSome o (λ k. k < length s.deck.ships)
  shown-host_known None i e = tt
  shown-host_known (Some k) i e = subst (λ (u : OnWay). k < length u.deck.ships) shows (host-in_deck d ms kept.way.known i k (sym e))

  pub shown-places : length xs ≡ length s.places
  shown-places = ap (λ (u : OnWay). length u.places) shows

  pub shown-berths : length ms ≡ length s.berths
  shown-berths = ap (λ (u : OnWay). length u.berths) shows

  pub shown-berth : (i : ℕ) → i < length s.berths → berth_in (case_on s) i ≡ Some (berth_at ms i)
  shown-berth i h = subst (λ (u : OnWay). i < length u.berths → berth_in (case_on u) i ≡ Some (berth_at ms i)) shows (λ h. berth-hit ms xs i h) h
