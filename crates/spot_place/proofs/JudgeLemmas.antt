-- What is left to look at once the last option is taken, since the spot case without it is faultless.
use Rattle.std.proofs.Common.{◌≡◌, ◌≢◌, ℕ, zero, suc, ◌+◌, ◌<◌, ℤ, List, [], length, take, ◌⊎◌, inl, inr, refl, sym, ap, ◌∙◌, subst, arith, Some, None, Contains}
use Rattle.std.proofs.lemmas.Bool.Decides.{eqb_tells, leb_tells}
use Rattle.std.proofs.lemmas.List.{length-take-le}
use Rattle.std.proofs.lemmas.Option.{none-some}
use Rattle.lock_model.specs.Deck.{Deck}
use Rattle.refute_rules.specs.declared.choices.Berth.{Berth}
use Rattle.refute_rules.specs.declared.choices.Choice.{Choice}
use Rattle.refute_rules.specs.Decided.{berth_in, x_in, HasOtherRank}
use Rattle.refute_rules.specs.Known.{host_of, hosts_within, berth_y, y_within, y_in}
use Rattle.refute_rules.specs.SpotFaults.{AreApartAt, IsOutsideAlong, IsOutsideAcross, IsPastHost, AreTouching, OtherRank, LeadsBack, Outside, PastHost, Touching, IsFaultless}
use Rattle.spot_place.specs.OnWay.{case_of, lying, IsBack, NoneBelow}
use Rattle.spot_place.specs.SpotCase.{OnWay, case_on, IsOnWay}
use Rattle.spot_place.specs.Faults.{AreApartBelow}
use Rattle.spot_place.proofs.CaseLemmas.{berth-hit, berth-miss, place-hit, place-miss, leads-quay}
use Rattle.spot_place.proofs.StepLemmas.{case-length, pop-berth, pop-place}
use Rattle.spot_place.proofs.KeptLemmas.{take-at, y-same, hosts-same, berths-same}

-- ---- ships of which something is known

pub berth-decided : (ms : List Berth) (xs : List ℕ) (i : ℕ) (b : Berth) → berth_in (case_of ms xs) i ≡ Some b → i < length ms
berth-decided ms xs i b e = elim (leb_tells (suc i) (length ms)) [
  | inl y ↦ omega (arith, y.1)
  | inr n ↦ absurd (none-some b (sym (berth-miss ms xs i (omega (arith, n.1))) ∙ e))
]

pub x-decided : (ms : List Berth) (xs : List ℕ) (i x : ℕ) → x_in (case_of ms xs) i ≡ Some x → i < length xs
x-decided ms xs i x e = elim (leb_tells (suc i) (length xs)) [
  | inl y ↦ omega (arith, y.1)
  | inr n ↦ absurd (none-some x (sym (place-miss ms xs i (omega (arith, n.1))) ∙ e))
]

no_berth-no_y : (d : Deck) (case : List Choice) (steps i : ℕ) → berth_in case i ≡ None → y_within d case steps i ≡ None
no_berth-no_y d case zero i e = refl
no_berth-no_y d case (suc steps) i e = ap (λ o. berth_y d i o (y_within d case steps)) e

pub y-decided : (d : Deck) (ms : List Berth) (xs : List ℕ) (i : ℕ) (y : ℤ) → y_in d (case_of ms xs) i ≡ Some y → i < length ms
y-decided d ms xs i y e = elim (leb_tells (suc i) (length ms)) [
  | inl l ↦ omega (arith, l.1)
  | inr n ↦ absurd (none-some y (sym (no_berth-no_y d (case_of ms xs) (length d.ships) i (berth-miss ms xs i (omega (arith, n.1)))) ∙ e))
]

-- ---- faults of cases that decide the same

module _ (d : Deck) (c e : List Choice) where
  pub rank-as : ((i : ℕ) → berth_in c i ≡ berth_in e i) → (i : ℕ) → HasOtherRank c i → HasOtherRank e i
  rank-as same i h = record { host = h.host; own = h.own; berth = h.berth; lies = sym (same i) ∙ h.lies; decided = sym (same h.host) ∙ h.decided; differ = h.differ }

  pub back-as : ((i : ℕ) → berth_in c i ≡ berth_in e i) → (i : ℕ) → Contains (hosts_within c (length d.ships) i) i → Contains (hosts_within e (length d.ships) i) i
  back-as same i h = subst (λ hs. Contains hs i) (hosts-same c e same (length d.ships) i) h

  along-as : (i : ℕ) → x_in c i ≡ x_in e i → IsOutsideAlong d c i → IsOutsideAlong d e i
  along-as i same h = record { x = h.x; decided = sym same ∙ h.decided; outside = h.outside }

  pub across-as : (i : ℕ) → y_in d c i ≡ y_in d e i → IsOutsideAcross d c i → IsOutsideAcross d e i
  across-as i same h = record { y = h.y; known = sym same ∙ h.known; outside = h.outside }

  past-as : (i : ℕ) → berth_in c i ≡ berth_in e i → ((k x : ℕ) → x_in c k ≡ Some x → x_in c k ≡ x_in e k) → IsPastHost d c i → IsPastHost d e i
  past-as i same places h = record { host = h.host; x = h.x; host_x = h.host_x; lies = ap host_of (sym same) ∙ h.lies; own = sym (places i h.x h.own) ∙ h.own; other = sym (places h.host h.host_x h.other) ∙ h.other; past = h.past }

  touching-as : (i j : ℕ) → x_in c i ≡ x_in e i → x_in c j ≡ x_in e j → y_in d c i ≡ y_in d e i → y_in d c j ≡ y_in d e j → AreTouching d c i j → AreTouching d e i j
  touching-as i j xi xj yi yj h = record {
    different = h.different;
    xi = h.xi;
    yi = h.yi;
    xj = h.xj;
    yj = h.yj;
    decided_i = sym xi ∙ h.decided_i;
    known_i = sym yi ∙ h.known_i;
    decided_j = sym xj ∙ h.decided_j;
    known_j = sym yj ∙ h.known_j;
    touching = h.touching;
  }

touching-turned : (d : Deck) (c : List Choice) (i j : ℕ) → AreTouching d c i j → AreTouching d c j i
touching-turned d c i j h = record {
  different = λ e. h.different (sym e);
  xi = h.xj;
  yi = h.yj;
  xj = h.xi;
  yj = h.yi;
  decided_i = h.decided_j;
  known_i = h.known_j;
  decided_j = h.decided_i;
  known_j = h.known_i;
  touching = λ a. h.touching (turned a);
}
  where
    turned : AreApartAt d j h.xj h.yj i h.xi h.yi → AreApartAt d i h.xi h.yi j h.xj h.yj
    turned (inl a) = inr (inl a)
    turned (inr (inl a)) = inl a
    turned (inr (inr (inl a))) = inr (inr (inr a))
    turned (inr (inr (inr a))) = inr (inr (inl a))

-- two different ships below n
by_order : (i j : ℕ) → i ≢ j → (i < j) ⊎ (j < i)
by_order i j d = elim (leb_tells (suc i) j) [ inl y ↦ inl y.1 | inr n ↦ inr (omega (arith, n.1, d)) ]

-- ---- the empty case

pub empty-faultless : (d : Deck) (ms : List Berth) (xs : List ℕ) → length ms ≡ 0 → length xs ≡ 0 → IsFaultless d (case_of ms xs)
empty-faultless d ms xs a b (OtherRank i) h = let less = berth-decided ms xs i _ h.lies in omega (arith, less, a)
empty-faultless d ms xs a b (LeadsBack i) h = leads-quay (case_of ms xs) i i (length d.ships) (ap host_of (berth-miss ms xs i (omega (arith, a)))) (record { among = h })
empty-faultless d ms xs a b (Outside i) (inl h) = let less = x-decided ms xs i h.x h.decided in omega (arith, less, b)
empty-faultless d ms xs a b (Outside i) (inr h) = let less = y-decided d ms xs i h.y h.known in omega (arith, less, a)
empty-faultless d ms xs a b (PastHost i) h = let less = x-decided ms xs i h.x h.own in omega (arith, less, b)
empty-faultless d ms xs a b (Touching i j) h = let less = x-decided ms xs i h.xi h.decided_i in omega (arith, less, b)

-- ---- the last option is a berth

module _ (d : Deck) (ms : List Berth) (xs : List ℕ) (way : IsOnWay d ms xs) where
  module _ (step : length ms ≡ suc (length xs)) where
    abbrev without_berth : List Choice
    without_berth = case_of (take (length xs) ms) xs

    without_berth-good : IsFaultless d without_berth
    without_berth-good =
        let long = case-length ms xs way.behind in
        subst (IsFaultless d) (sym (pop-berth (length xs) ms xs step refl)) (way.listed (length xs + length xs) (omega (arith, long, step)))

    fewer : length (take (length xs) ms) ≡ length xs
    fewer = length-take-le (length xs) ms (omega (arith, step))

    x-without_berth : (i x : ℕ) → x_in (case_of ms xs) i ≡ Some x → x_in (case_of ms xs) i ≡ x_in without_berth i
    x-without_berth i x e =
        let less = x-decided ms xs i x e in
        let few = fewer in
        place-hit ms xs i way.behind less ∙ sym (place-hit (take (length xs) ms) xs i (omega (arith, few)) less)

    berth-without : (i : ℕ) → i < length xs → berth_in (case_of ms xs) i ≡ berth_in without_berth i
    berth-without i less =
        let few = fewer in
        berth-hit ms xs i (omega (arith, less, step)) ∙ ap (λ (m : Berth). Some m) (sym (take-at ms (length xs) i _ less)) ∙ sym (berth-hit (take (length xs) ms) xs i (omega (arith, few, less)))

    pub berth-exact : (n : ℕ) → n ≡ length d.ships → NoneBelow (HasOtherRank (lying ms)) (length ms) → NoneBelow (IsBack (lying ms) n) (length ms) → NoneBelow (IsOutsideAcross d (case_of ms xs)) (length d.ships) → AreApartBelow d (case_of ms xs) (length xs) → IsFaultless d (case_of ms xs)
    berth-exact n e ranks backs across apart (OtherRank i) h = ranks.each i (berth-decided ms xs i _ h.lies) (rank-as d (case_of ms xs) (lying ms) (berths-same ms xs []) i h)
    berth-exact n e ranks backs across apart (LeadsBack i) h =
        elim (leb_tells (suc i) (length ms)) [
          | inl y ↦ backs.each i y.1 (record { round = record { among = subst (λ n. Contains (hosts_within (lying ms) n i) i) (sym e) (back-as d (case_of ms xs) (lying ms) (berths-same ms xs []) i h) } })
          | inr n ↦ leads-quay (case_of ms xs) i i (length d.ships) (ap host_of (berth-miss ms xs i (omega (arith, n.1)))) (record { among = h })
        ]
    berth-exact n e ranks backs across apart (Outside i) (inl h) = without_berth-good (Outside i) (inl (along-as d (case_of ms xs) without_berth i (x-without_berth i h.x h.decided) h))
    berth-exact n e ranks backs across apart (Outside i) (inr h) = let less = y-decided d ms xs i h.y h.known in across.each i (omega (arith, less, way.ships)) h
    berth-exact n e ranks backs across apart (PastHost i) h = without_berth-good (PastHost i) (past-as d (case_of ms xs) without_berth i (berth-without i (x-decided ms xs i h.x h.own)) x-without_berth h)
    berth-exact n e ranks backs across apart (Touching i j) h =
        elim (by_order i j h.different) [
          | inl less ↦ (apart.each j (x-decided ms xs j h.xj h.decided_j)).each i less (touching-turned d (case_of ms xs) i j h)
          | inr less ↦ (apart.each i (x-decided ms xs i h.xi h.decided_i)).each j less h
        ]

  -- ---- the last option is a place

  module _ (n : ℕ) (berths : length ms ≡ suc n) (places : length xs ≡ suc n) where
    abbrev without_place : List Choice
    without_place = case_of ms (take n xs)

    without_place-good : IsFaultless d without_place
    without_place-good =
        let long = case-length ms xs way.behind in
        subst (IsFaultless d) (sym (pop-place n ms xs berths places)) (way.listed (suc (n + n)) (omega (arith, long, berths, places)))

    few-places : length (take n xs) ≡ n
    few-places = length-take-le n xs (omega (arith, places))

    x-without_place : (i : ℕ) → i < n → x_in (case_of ms xs) i ≡ x_in without_place i
    x-without_place i less =
        let few = few-places in
        place-hit ms xs i way.behind (omega (arith, less, places)) ∙ ap (λ (x : ℕ). Some x) (sym (take-at xs n i 0 less)) ∙ sym (place-hit ms (take n xs) i (omega (arith, few, berths)) (omega (arith, few, less)))

    same-berths : (i : ℕ) → berth_in (case_of ms xs) i ≡ berth_in without_place i
    same-berths = berths-same ms xs (take n xs)

    same-y : (i : ℕ) → y_in d (case_of ms xs) i ≡ y_in d without_place i
    same-y i = y-same d (case_of ms xs) without_place same-berths (length d.ships) i

    pub place-exact : (IsOutsideAlong d (case_of ms xs) n → ⊥) → NoneBelow (IsPastHost d (case_of ms xs)) (length xs) → NoneBelow (AreTouching d (case_of ms xs) n) n → IsFaultless d (case_of ms xs)
    place-exact along past apart (OtherRank i) h = without_place-good (OtherRank i) (rank-as d (case_of ms xs) without_place same-berths i h)
    place-exact along past apart (LeadsBack i) h = without_place-good (LeadsBack i) (back-as d (case_of ms xs) without_place same-berths i h)
    place-exact along past apart (Outside i) (inl h) =
        let less = x-decided ms xs i h.x h.decided in
        elim (eqb_tells i n) [
          | inl y ↦ along (subst (IsOutsideAlong d (case_of ms xs)) y.1 h)
          | inr m ↦ without_place-good (Outside i) (inl (along-as d (case_of ms xs) without_place i (x-without_place i (omega (arith, less, places, m.1))) h))
        ]
    place-exact along past apart (Outside i) (inr h) = without_place-good (Outside i) (inr (across-as d (case_of ms xs) without_place i (same-y i) h))
    place-exact along past apart (PastHost i) h = past.each i (x-decided ms xs i h.x h.own) h
    place-exact along past apart (Touching i j) h =
        let first = x-decided ms xs i h.xi h.decided_i in
        let second = x-decided ms xs j h.xj h.decided_j in
        elim (eqb_tells i n) [
          | inl y ↦ apart.each j (omega (arith, second, places, h.different, y.1)) (subst (λ k. AreTouching d (case_of ms xs) k j) y.1 h)
          | inr m ↦ elim (eqb_tells j n) [
            | inl z ↦ apart.each i (omega (arith, first, places, h.different, z.1)) (touching-turned d (case_of ms xs) i n (subst (AreTouching d (case_of ms xs) i) z.1 h))
            | inr o ↦ without_place-good (Touching i j) (touching-as d (case_of ms xs) without_place i j (x-without_place i (omega (arith, first, places, m.1))) (x-without_place j (omega (arith, second, places, o.1))) (same-y i) (same-y j) h)
          ]
        ]

-- ---- through what the type shows

module _ (d : Deck) (ms : List Berth) (xs : List ℕ) (s : OnWay) (shows : record { deck = d; berths = ms; places = xs } ≡ s) where
  pub shown-rank : (i : ℕ) → HasOtherRank (lying ms) i → HasOtherRank (case_on s) i
  shown-rank i h = subst (λ (u : OnWay). HasOtherRank (case_on u) i) shows (rank-as d (lying ms) (case_of ms xs) (berths-same ms [] xs) i h)

  pub shown-back : (n i : ℕ) → n ≡ length s.deck.ships → IsBack (lying ms) n i → Contains (hosts_within (case_on s) (length s.deck.ships) i) i
  shown-back n i e h =
      subst (λ (u : OnWay). n ≡ length u.deck.ships → Contains (hosts_within (case_on u) (length u.deck.ships) i) i) shows
      (λ e. back-as d (lying ms) (case_of ms xs) (berths-same ms [] xs) i (subst (λ n. Contains (hosts_within (lying ms) n i) i) e h.round.among))
      e

  pub shown-faultless : (n : ℕ) → n ≡ length s.deck.ships → length s.berths ≡ suc (length s.places) → IsOnWay s.deck s.berths s.places → NoneBelow (HasOtherRank (lying ms)) (length ms) → NoneBelow (IsBack (lying ms) n) (length ms) → NoneBelow (IsOutsideAcross s.deck (case_on s)) (length s.deck.ships) → AreApartBelow s.deck (case_on s) (length s.places) → IsFaultless s.deck (case_on s)
  shown-faultless n e step way ranks backs across apart =
      let berths : ms ≡ s.berths = ap (λ (u : OnWay). u.berths) shows in
      berth-exact s.deck s.berths s.places way step n e
      (subst (λ (ms : List Berth). NoneBelow (HasOtherRank (lying ms)) (length ms)) berths ranks)
      (subst (λ (ms : List Berth). NoneBelow (IsBack (lying ms) n) (length ms)) berths backs)
      across apart

  pub shown-empty : length ms ≡ 0 → length xs ≡ 0 → IsFaultless s.deck (case_on s)
  shown-empty a b = subst (λ (u : OnWay). IsFaultless u.deck (case_on u)) shows (empty-faultless d ms xs a b)
