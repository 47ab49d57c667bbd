-- Lockages of the rest, with the ships' numbers in the instance.
use Rattle.std.proofs.Common.{◌≡◌, ◌≢◌, ℕ, suc, ◌+◌, ◌<◌, ◌≤◌, List, [], ◌∷◌, length, map, take, filter, get_or, All, Bool, cond, true, false, nat_eq, inl, inr, refl, sym, ap, ◌∙◌, subst, arith, sum_by}
use Rattle.std.specs.List.Sorted.{IsStrictlyIncreasing}
use Rattle.std.proofs.lemmas.Bool.{eq-eqb, ne_eqb, eqb-true}
use Rattle.std.proofs.lemmas.Bool.Decides.{eqb_tells, leb_tells}
use Rattle.std.proofs.lemmas.List.{length-map, get_or-map, get_or-take, get_or_default}
use Rattle.std.proofs.lemmas.List.Elements.{All-head, All-tail, All-map, filter_passes}
use Rattle.std.proofs.lemmas.List.Sums.{sum_by-cons}
use Rattle.std.proofs.lemmas.List.Kept.{AllPairs-from_increasing}
use Rattle.lock_model.specs.Limits.{Within}
use Rattle.lock_model.specs.Cargo.{HasNoClash}
use Rattle.lock_model.specs.Placement.{IsLegalPlacement}
use Rattle.lock_model.specs.Fitting.{size_of, deck_of}
use Rattle.lock_model.specs.Fleet.{ship_at, chamber_at, no_ship, no_chamber}
use Rattle.lock_model.specs.declared.chamber.Chamber.{Chamber}
use Rattle.lock_model.specs.declared.ship.Ship.{Ship}
use Rattle.lock_model.specs.declared.instance.Instance.{Instance}
use Rattle.lock_model.specs.declared.plan.Lockage.{Lockage}
use Rattle.lock_model.specs.declared.plan.Plan.{Plan}
use Rattle.lock_rules.specs.Arrival.{numbers_from}
use Rattle.lock_rules.specs.Lawful.{duration_of}
use Rattle.lock_rules.specs.Plan.{times_in, served_in, IsLegalLockage, IsLegal, IsLegalPart}
use Rattle.lock_rules.proofs.CountLemmas.{times_in-between}
use Rattle.lock_rules.proofs.LeafLemmas.{served_in-append}
use Rattle.lock_rules.proofs.LegalLemmas.{legal-ships}
use Rattle.replan.specs.Rest.{chamber_after, ships_left, from_minute, IsRest}
use Rattle.replan.specs.Together.{number_of, renumbered, joined}
use Rattle.replan.proofs.ListLemmas.{filtered-rise, taken_few}
use Rattle.replan.proofs.LeftLemmas.{left-known, count-after, after_at, from_at, count-from}

-- where a number that stands in a list is
record IsAt (xs : List ℕ) (s : ℕ) : Type 0 where
  place : ℕ
  within : place < length xs
  is : get_or xs place 0 ≡ s

place_in : (xs : List ℕ) (s : ℕ) → 1 ≤ times_in xs s → IsAt xs s
place_in [] s some = absurd (omega (arith, some))
place_in (x ∷ xs) s some = elim (eqb_tells x s) [
  | inl same ↦ record { place = 0; within = omega arith; is = same.1 }
  | inr other ↦
      let skip : times_in (x ∷ xs) s ≡ times_in xs s = omega (arith, ap {B = ℕ} (λ b. cond b 1 0) other.0) in
      let rest = place_in xs s (omega (arith, some, skip)) in
      record { place = suc rest.place; within = omega (arith, rest.within); is = rest.is }
]

pub times_in-filter : (p : ℕ → Bool) (xs : List ℕ) (s : ℕ) → p s ≡ true → times_in (filter p xs) s ≡ times_in xs s
times_in-filter p [] s pass = refl
times_in-filter p (x ∷ xs) s pass = elim (eqb_tells x s) [
  | inl same ↦ ap (λ b. times_in (cond b (x ∷ filter p xs) (filter p xs)) s) (ap p same.1 ∙ pass) ∙ ap {B = ℕ} (λ n. cond (nat_eq x s) 1 0 + n) (times_in-filter p xs s pass)
  | inr other ↦ skipped (p x) other.0 ∙ ap {B = ℕ} (λ n. cond (nat_eq x s) 1 0 + n) (times_in-filter p xs s pass)
]
  where
    skipped : (b : Bool) → nat_eq x s ≡ false → times_in (cond b (x ∷ filter p xs) (filter p xs)) s ≡ cond (nat_eq x s) 1 0 + times_in (filter p xs) s
    skipped true other = refl
    skipped false other = omega (arith, ap {B = ℕ} (λ b. cond b 1 0) other)

-- numbers that rise
module _ (ns : List ℕ) (rise : IsStrictlyIncreasing ns) where
  pub number-less : (s t : ℕ) → s < t → t < length ns → number_of ns s < number_of ns t
  number-less s t less within = AllPairs-from_increasing ns rise s t 0 less within

  number-other : (s t : ℕ) → s < length ns → t < length ns → s ≢ t → number_of ns s ≢ number_of ns t
  number-other s t here there other same = elim (leb_tells s t) [
    | inl before ↦ elim (leb_tells t s) [
      | inl after ↦ other (omega (arith, before.1, after.1))
      | inr less ↦ absurd (omega (arith, same, number-less s t less.1 there))
    ]
    | inr less ↦ absurd (omega (arith, same, number-less t s less.1 here))
  ]

  times-renumbered : (ss : List ℕ) (t : ℕ) → All (λ s. s < length ns) ss → t < length ns → times_in (map (number_of ns) ss) (number_of ns t) ≡ times_in ss t
  times-renumbered [] t known within = refl
  times-renumbered (s ∷ ss) t known within =
      let rest = times-renumbered ss t (All-tail (λ s. s < length ns) s ss known) within in
      let here : s < length ns = All-head (λ s. s < length ns) s ss known in
      elim (eqb_tells s t) [
        | inl same ↦ omega (arith, rest, ap {B = ℕ} (λ b. cond b 1 0) (eq-eqb (number_of ns s) (number_of ns t) (ap (number_of ns) same.1)), ap {B = ℕ} (λ b. cond b 1 0) same.0)
        | inr other ↦ omega (arith, rest, ap {B = ℕ} (λ b. cond b 1 0) (ne_eqb (number_of ns s) (number_of ns t) (number-other s t here within other.1)), ap {B = ℕ} (λ b. cond b 1 0) other.0)
      ]

  pub served-renumbered : (ls : List Lockage) (t : ℕ) → All (λ l. All (λ s. s < length ns) l.ships) ls → t < length ns → served_in (map (renumbered ns) ls) (number_of ns t) ≡ served_in ls t
  served-renumbered [] t known within = refl
  served-renumbered (l ∷ ls) t known within =
      omega (
        arith,
        times-renumbered l.ships t (All-head (λ (l : Lockage). All (λ s. s < length ns) l.ships) l ls known) within,
        served-renumbered ls t (All-tail (λ (l : Lockage). All (λ s. s < length ns) l.ships) l ls known) within,
      )

  rise-renumbered : (ss : List ℕ) → All (λ s. s < length ns) ss → IsStrictlyIncreasing ss → IsStrictlyIncreasing (map (number_of ns) ss)
  rise-renumbered ss known rises k within =
      let count : length (map (number_of ns) ss) ≡ length ss = length-map ss (number_of ns) in
      let next : k + 1 < length ss = omega (arith, within, count) in
      let here : k < length ss = omega (arith, next) in
      let less = number-less (get_or ss k 0) (get_or ss (k + 1) 0) (rises k next) (known (k + 1) 0 next) in
      omega (arith, less, get_or-map (number_of ns) ss k 0 0 here, get_or-map (number_of ns) ss (k + 1) 0 0 next)

  -- one number more is greater than those before
  pub rising_more : (ss ms : List ℕ) (i : ℕ) → i < length ss → All (λ s. s < length ns) ss → IsStrictlyIncreasing ss → ms ≡ map (number_of ns) (take i ss) → All (λ s. s < number_of ns (get_or ss i 0)) ms
  rising_more ss ms i within known rises is =
      subst (All (λ s. s < number_of ns (get_or ss i 0))) (sym is)
      (All-map (λ s. s < number_of ns (get_or ss i 0)) (number_of ns) (take i ss) (λ k d here.
      let few : k < i = omega (arith, here, taken_few ss i) in
      let inside : k < length ss = omega (arith, few, within) in
      let read : get_or (take i ss) k d ≡ get_or ss k 0 = get_or-take i ss k d few ∙ get_or_default ss k d 0 inside in
      let less = number-less (get_or ss k 0) (get_or ss i 0) (AllPairs-from_increasing ss rises k i 0 few within) (known i 0 within) in
      omega (arith, less, ap (number_of ns) read)))

-- a number that isn't among them
times-outside : (ns ss : List ℕ) (s : ℕ) → All (λ t. t < length ns) ss → ((t : ℕ) → t < length ns → number_of ns t ≢ s) → times_in (map (number_of ns) ss) s ≡ 0
times-outside ns [] s known none = refl
times-outside ns (t ∷ ss) s known none =
    omega (
      arith,
      ap {B = ℕ} (λ b. cond b 1 0) (ne_eqb (number_of ns t) s (none t (All-head (λ t. t < length ns) t ss known))),
      times-outside ns ss s (All-tail (λ t. t < length ns) t ss known) none,
    )

served-outside : (ns : List ℕ) (ls : List Lockage) (s : ℕ) → All (λ l. All (λ t. t < length ns) l.ships) ls → ((t : ℕ) → t < length ns → number_of ns t ≢ s) → served_in (map (renumbered ns) ls) s ≡ 0
served-outside ns [] s known none = refl
served-outside ns (l ∷ ls) s known none =
    omega (
      arith,
      times-outside ns l.ships s (All-head (λ (l : Lockage). All (λ t. t < length ns) l.ships) l ls known) none,
      served-outside ns ls s (All-tail (λ (l : Lockage). All (λ t. t < length ns) l.ships) l ls known) none,
    )

module _ (I R : Instance) (K : Plan) (M : ℕ) (rest : IsRest I K M R) where
  pub rest-chambers : length R.chambers ≡ length I.chambers
  rest-chambers = ap length rest.chambers ∙ count-after I K

  pub rest-ships : length R.ships ≡ length (ships_left I K)
  rest-ships = ap length rest.ships ∙ count-from I M (ships_left I K)

  pub chamber-rest : (c : ℕ) → c < length I.chambers → chamber_at R c ≡ chamber_after I K c
  chamber-rest c known = ap (λ cs. get_or cs c no_chamber) rest.chambers ∙ after_at I K c no_chamber known

  pub ship-rest : (s : ℕ) → s < length (ships_left I K) → ship_at R s ≡ from_minute M (ship_at I (number_of (ships_left I K) s))
  ship-rest s known = ap (λ ss. get_or ss s no_ship) rest.ships ∙ from_at I M (ships_left I K) s no_ship known

  sizes-rest : (ss : List ℕ) → All (λ s. s < length (ships_left I K)) ss → map (λ s. size_of (ship_at R s)) ss ≡ map (λ s. size_of (ship_at I s)) (map (number_of (ships_left I K)) ss)
  sizes-rest [] known = refl
  sizes-rest (s ∷ ss) known =
      ap (λ x. x ∷ map (λ s. size_of (ship_at R s)) ss) (ap size_of (ship-rest s (All-head (λ s. s < length (ships_left I K)) s ss known)))
      ∙ ap (λ xs. size_of (ship_at I (number_of (ships_left I K) s)) ∷ xs) (sizes-rest ss (All-tail (λ s. s < length (ships_left I K)) s ss known))

  pub deck-rest : (c : ℕ) (ss : List ℕ) → c < length I.chambers → All (λ s. s < length (ships_left I K)) ss → deck_of R c ss ≡ deck_of I c (map (number_of (ships_left I K)) ss)
  deck-rest c ss known ships =
      let same = chamber-rest c known in
      let sizes = sizes-rest ss ships in
      λ i. record { length = (same i).length; width = (same i).width; end = (same i).end; gap = (same i).gap; side = (same i).side; ships = sizes i }

  handling-rest : (ss : List ℕ) → All (λ s. s < length (ships_left I K)) ss → sum_by (λ s. (ship_at R s).handling) ss ≡ sum_by (λ s. (ship_at I s).handling) (map (number_of (ships_left I K)) ss)
  handling-rest [] known = refl
  handling-rest (s ∷ ss) known =
      omega (
        arith,
        sum_by-cons (λ s. (ship_at R s).handling) s ss,
        sum_by-cons (λ s. (ship_at I s).handling) (number_of (ships_left I K) s) (map (number_of (ships_left I K)) ss),
        ap (λ (x : Ship). x.handling) (ship-rest s (All-head (λ s. s < length (ships_left I K)) s ss known)),
        handling-rest ss (All-tail (λ s. s < length (ships_left I K)) s ss known),
      )

  pub duration-rest : (c : ℕ) (ss : List ℕ) → c < length I.chambers → All (λ s. s < length (ships_left I K)) ss → duration_of R c ss ≡ duration_of I c (map (number_of (ships_left I K)) ss)
  duration-rest c ss known ships = omega (arith, ap (λ (x : Chamber). x.pass) (chamber-rest c known), handling-rest ss ships)

  pub left-rise : IsStrictlyIncreasing (ships_left I K)
  left-rise = filtered-rise (λ s. nat_eq (served_in K.lockages s) 0) (length I.ships)

  -- a legal lockage of the rest is one of the instance
  pub legal-renumbered : (l : Lockage) → IsLegalLockage R l → IsLegalLockage I (renumbered (ships_left I K) l)
  legal-renumbered l legal =
      let ns = ships_left I K in
      let known : All (λ s. s < length ns) l.ships = subst (λ n. All (λ s. s < n) l.ships) rest-ships legal.known in
      let chamber : l.chamber < length I.chambers = subst (λ n. l.chamber < n) rest-chambers legal.chamber in
      let deck = deck-rest l.chamber l.ships chamber known in
      record {
        chamber = chamber;
        known = All-map (λ s. s < length I.ships) (number_of ns) l.ships (λ k d within. left-known I K (get_or l.ships k d) 0 (known k d within));
        rising = rise-renumbered ns left-rise l.ships known legal.rising;
        count = subst (λ n. Within 1 (chamber_at I l.chamber).most n) (sym (length-map l.ships (number_of ns))) (subst (λ (x : Chamber). Within 1 x.most (length l.ships)) (chamber-rest l.chamber chamber) legal.count);
        way = All-map (λ s. (ship_at I s).way ≡ l.way) (number_of ns) l.ships (λ k d within. sym (ap (λ (x : Ship). x.way) (ship-rest (get_or l.ships k d) (known k d within))) ∙ legal.way k d within);
        placed = subst (λ d. IsLegalPlacement d l.spots) deck legal.placed;
        clear = subst HasNoClash deck legal.clear;
      }

  -- each ship is served once
  pub once-joined : (Q : Plan) → IsLegalPart I K → IsLegal R Q → (s : ℕ) → s < length I.ships → served_in (joined K (ships_left I K) Q).lockages s ≡ 1
  once-joined Q part legal s within =
      let ns = ships_left I K in
      let ships : All (λ l. All (λ s. s < length ns) l.ships) Q.lockages = subst (λ n. All (λ l. All (λ s. s < n) l.ships) Q.lockages) rest-ships (legal-ships R Q legal) in
      served_in-append K.lockages (map (renumbered ns) Q.lockages) s ∙ elim (eqb_tells (served_in K.lockages s) 0) [
        | inl none ↦
            let one : times_in ns s ≡ 1 = times_in-filter (λ s. nat_eq (served_in K.lockages s) 0) (numbers_from 0 (length I.ships)) s none.0 ∙ times_in-between 0 (length I.ships) s (omega arith) (omega (arith, within)) in
            let at = place_in ns s (omega (arith, one)) in
            let once : served_in Q.lockages at.place ≡ 1 = legal.once at.place (subst (λ n. at.place < n) (sym rest-ships) at.within) in
            omega (arith, none.1, ap (served_in (map (renumbered ns) Q.lockages)) at.is, served-renumbered ns left-rise Q.lockages at.place ships at.within, once)
        | inr some ↦
            let single = part.once s within in
            let served : served_in K.lockages s ≡ 1 = elim (leb_tells 1 (served_in K.lockages s)) [ inl y ↦ omega (arith, y.1, single) | inr n ↦ absurd (some.1 (omega (arith, n.1))) ] in
            let out = served-outside ns Q.lockages s ships (λ t here same. some.1 (left-unserved t here s same)) in
            omega (arith, served, out)
      ]
    where
      left-unserved : (t : ℕ) → t < length (ships_left I K) → (s : ℕ) → number_of (ships_left I K) t ≡ s → served_in K.lockages s ≡ 0
      left-unserved t here s same =
          eqb-true (served_in K.lockages s) 0
          (subst (λ s. nat_eq (served_in K.lockages s) 0 ≡ true) same (filter_passes (λ s. nat_eq (served_in K.lockages s) 0) (numbers_from 0 (length I.ships)) t 0 here))
