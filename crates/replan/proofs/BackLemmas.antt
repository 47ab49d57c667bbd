-- Every legal plan that keeps the kept plan comes from a legal plan of the rest.
use Rattle.std.proofs.Common.{◌≡◌, ℕ, suc, ◌+◌, ◌<◌, ◌≤◌, List, [], ◌∷◌, ◌++◌, length, map, filter, get_or, All, Bool, not, cond, true, false, true≢false, nat_eq, inl, inr, refl, sym, ap, ◌∙◌, subst, arith, sum_by}
use Rattle.std.specs.List.Sorted.{IsStrictlyIncreasing}
use Rattle.std.proofs.lemmas.Bool.{lt-leb, ltb-true, eqb-true}
use Rattle.std.proofs.lemmas.Bool.Decides.{eqb_tells, leb_tells}
use Rattle.std.proofs.lemmas.List.{append-nil, length-map, get_or-map}
use Rattle.std.proofs.lemmas.List.Elements.{All-head, All-tail, All-map, All-weaker, All-filter, filter_passes, filter-append}
use Rattle.std.proofs.lemmas.List.Sums.{sum_by-append, get_or-le-sum_by}
use Rattle.lock_model.specs.Limits.{Within}
use Rattle.lock_model.specs.Cargo.{HasNoClash}
use Rattle.lock_model.specs.Placement.{IsLegalPlacement}
use Rattle.lock_model.specs.Fleet.{ship_at, chamber_at}
use Rattle.lock_model.specs.declared.chamber.Chamber.{Chamber}
use Rattle.lock_model.specs.declared.ship.Ship.{Ship}
use Rattle.lock_model.specs.declared.way.Way.{Way}
use Rattle.lock_model.specs.declared.way.Way.TheVariants.{Up, Down}
use Rattle.lock_model.specs.declared.way.Stand.{Stand}
use Rattle.lock_model.specs.declared.way.Stand.TheVariants.{Low, High}
use Rattle.lock_model.specs.declared.instance.Instance.{Instance}
use Rattle.lock_model.specs.declared.plan.Lockage.{Lockage}
use Rattle.lock_model.specs.declared.plan.Plan.{Plan}
use Rattle.lock_rules.specs.Arrival.{numbers_from}
use Rattle.lock_rules.specs.Lawful.{duration_of, stand_after, HasTurned, IsFree, IsLawfulStart, AreLawfulFrom}
use Rattle.lock_rules.specs.Lines.{insert_by_start, sorted_by_start, line_of, group_of}
use Rattle.lock_rules.specs.Plan.{times_in, served_in, IsLegalLockage, IsLegal, IsLegalPart, IsTimely, flow_in, cost_of}
use Rattle.lock_rules.proofs.CountLemmas.{times_in-between}
use Rattle.lock_rules.proofs.LineLemmas.{sum_by-lines, sum_by-plus, All-line, All-sorted_by_start}
use Rattle.lock_rules.proofs.LegalLemmas.{part-chambers, legal-chambers}
use Rattle.lock_rules.proofs.SplitLemmas.{served_in-sum, times_in-at}
use Rattle.chamber_times.specs.FirstBreak.{stand_after_all, done_after_all}
use Rattle.replan.specs.Kept.{starts_before}
use Rattle.replan.specs.Rest.{chamber_after, ships_left, added_of, IsRest}
use Rattle.replan.specs.Together.{number_of, renumbered, Keeps}
use Rattle.replan.proofs.LeftLemmas.{left-known}
use Rattle.replan.proofs.RenumberLemmas.{number-less, times_in-filter, served-renumbered, rest-chambers, rest-ships, chamber-rest, ship-rest, deck-rest, duration-rest, left-rise}
use Rattle.replan.proofs.JoinLemmas.{insert-append, all-before, none-before, sorted-renumbered, filter-renumbered}
use Rattle.replan.proofs.CostLemmas.{cost-joined}

-- the place of a number in a list
abbrev index_in : List ℕ → ℕ → ℕ
index_in [] s = 0
index_in (n ∷ ns) s = cond (nat_eq n s) 0 (suc (index_in ns s))

index_in-known : (ns : List ℕ) (s : ℕ) → 1 ≤ times_in ns s → index_in ns s < length ns
index_in-known [] s some = absurd (omega (arith, some))
index_in-known (n ∷ ns) s some = elim (eqb_tells n s) [
  | inl same ↦ omega (arith, ap {B = ℕ} (λ b. cond b 0 (suc (index_in ns s))) same.0)
  | inr other ↦
      omega (arith, ap {B = ℕ} (λ b. cond b 0 (suc (index_in ns s))) other.0, index_in-known ns s (omega (arith, some, ap {B = ℕ} (λ b. cond b 1 0) other.0)))
]

index_in-is : (ns : List ℕ) (s : ℕ) → 1 ≤ times_in ns s → number_of ns (index_in ns s) ≡ s
index_in-is [] s some = absurd (omega (arith, some))
index_in-is (n ∷ ns) s some = elim (eqb_tells n s) [
  | inl same ↦ ap (λ b. get_or (n ∷ ns) (cond b 0 (suc (index_in ns s))) 0) same.0 ∙ same.1
  | inr other ↦
      ap (λ b. get_or (n ∷ ns) (cond b 0 (suc (index_in ns s))) 0) other.0
      ∙ index_in-is ns s (omega (arith, some, ap {B = ℕ} (λ b. cond b 1 0) other.0))
]

-- a lockage of the instance, its ships told by their numbers in the rest
abbrev unnumbered : List ℕ → Lockage → Lockage
unnumbered ns l = record l { ships = map (index_in ns) l.ships }

back-ships : (ns ss : List ℕ) → All (λ s. 1 ≤ times_in ns s) ss → map (number_of ns) (map (index_in ns) ss) ≡ ss
back-ships ns [] among = refl
back-ships ns (s ∷ ss) among =
    ap (λ x. x ∷ map (number_of ns) (map (index_in ns) ss)) (index_in-is ns s (All-head (λ s. 1 ≤ times_in ns s) s ss among))
    ∙ ap (λ xs. s ∷ xs) (back-ships ns ss (All-tail (λ s. 1 ≤ times_in ns s) s ss among))

back-lockages : (ns : List ℕ) (ls : List Lockage) → All (λ l. All (λ s. 1 ≤ times_in ns s) l.ships) ls → map (renumbered ns) (map (unnumbered ns) ls) ≡ ls
back-lockages ns [] among = refl
back-lockages ns (l ∷ ls) among =
    let here = back-ships ns l.ships (All-head (λ (l : Lockage). All (λ s. 1 ≤ times_in ns s) l.ships) l ls among) in
    let one : renumbered ns (unnumbered ns l) ≡ l = λ i. record l { ships = here i } in
    ap (λ x. x ∷ map (renumbered ns) (map (unnumbered ns) ls)) one
    ∙ ap (λ xs. l ∷ xs) (back-lockages ns ls (All-tail (λ (l : Lockage). All (λ s. 1 ≤ times_in ns s) l.ships) l ls among))

-- a lockage behind all that start earlier
insert-past : (l : Lockage) (ls ms : List Lockage) → All (λ k. k.start < l.start) ls → insert_by_start l (ls ++ ms) ≡ ls ++ insert_by_start l ms
insert-past l [] ms early = refl
insert-past l (k ∷ ls) ms early =
    ap (λ b. cond b (l ∷ k ∷ (ls ++ ms)) (k ∷ insert_by_start l (ls ++ ms))) (lt-leb l.start k.start (All-head (λ (k : Lockage). k.start < l.start) k ls early))
    ∙ ap (λ rest. k ∷ rest) (insert-past l ls ms (All-tail (λ (k : Lockage). k.start < l.start) k ls early))

-- the lockages before a minute and those from it on, each sorted
late-from : (M : ℕ) (l : Lockage) → not (starts_before M l) ≡ true → M ≤ l.start
late-from M l h = elim (leb_tells (suc l.start) M) [
  | inl before ↦ absurd (true≢false (sym h ∙ ap not before.0))
  | inr late ↦ omega (arith, late.1)
]

early-half : (M : ℕ) (ls : List Lockage) → All (λ l. l.start < M) (sorted_by_start (filter (starts_before M) ls))
early-half M ls =
    All-sorted_by_start (λ l. l.start < M) (filter (starts_before M) ls)
    (All-weaker (λ (l : Lockage). starts_before M l ≡ true) (λ l. l.start < M) (λ l h. ltb-true l.start M h) (filter (starts_before M) ls) (filter_passes (starts_before M) ls))

late-part : (M : ℕ) (ls : List Lockage) → All (λ l. M ≤ l.start) (filter (λ l. not (starts_before M l)) ls)
late-part M ls =
    All-weaker (λ (l : Lockage). not (starts_before M l) ≡ true) (λ l. M ≤ l.start) (λ l h. late-from M l h) (filter (λ l. not (starts_before M l)) ls) (filter_passes (λ l. not (starts_before M l)) ls)

pub late-half : (M : ℕ) (ls : List Lockage) → All (λ l. M ≤ l.start) (sorted_by_start (filter (λ l. not (starts_before M l)) ls))
late-half M ls = All-sorted_by_start (λ l. M ≤ l.start) (filter (λ l. not (starts_before M l)) ls) (late-part M ls)

pub split-sorted : (M : ℕ) (ls : List Lockage) → sorted_by_start ls ≡ sorted_by_start (filter (starts_before M) ls) ++ sorted_by_start (filter (λ l. not (starts_before M l)) ls)
split-sorted M [] = refl
split-sorted M (l ∷ ls) =
    let A = filter (starts_before M) ls in
    let B = filter (λ l. not (starts_before M l)) ls in
    ap (insert_by_start l) (split-sorted M ls) ∙ elim (leb_tells (suc l.start) M) [
      | inl before ↦
          insert-append l (sorted_by_start A) (sorted_by_start B) (All-weaker (λ (m : Lockage). M ≤ m.start) (λ m. l.start ≤ m.start) (λ m h. omega (arith, h, before.1)) (sorted_by_start B) (late-half M ls))
          ∙ sym (ap (λ t. sorted_by_start (cond t (l ∷ A) A) ++ sorted_by_start (cond (not t) (l ∷ B) B)) before.0)
      | inr late ↦
          insert-past l (sorted_by_start A) (sorted_by_start B) (All-weaker (λ (m : Lockage). m.start < M) (λ m. m.start < l.start) (λ m h. omega (arith, h, late.1)) (sorted_by_start A) (early-half M ls))
          ∙ sym (ap (λ t. sorted_by_start (cond t (l ∷ A) A) ++ sorted_by_start (cond (not t) (l ∷ B) B)) late.0)
    ]

pub split-before : (M : ℕ) (ls : List Lockage) → filter (starts_before M) (sorted_by_start ls) ≡ sorted_by_start (filter (starts_before M) ls)
split-before M ls =
    let A = sorted_by_start (filter (starts_before M) ls) in
    let B = sorted_by_start (filter (λ l. not (starts_before M l)) ls) in
    ap (filter (starts_before M)) (split-sorted M ls)
    ∙ filter-append (starts_before M) A B
    ∙ ap (λ xs. xs ++ filter (starts_before M) B) (all-before M A (early-half M ls))
    ∙ ap (λ xs. A ++ xs) (none-before M B (late-half M ls))
    ∙ append-nil A

pub filter-swap : (p q : Lockage → Bool) (ls : List Lockage) → filter p (filter q ls) ≡ filter q (filter p ls)
filter-swap p q [] = refl
filter-swap p q (l ∷ ls) = step (p l) (q l) refl refl (filter-swap p q ls)
  where
    step : (a b : Bool) → p l ≡ a → q l ≡ b → filter p (filter q ls) ≡ filter q (filter p ls) → filter p (cond b (l ∷ filter q ls) (filter q ls)) ≡ filter q (cond a (l ∷ filter p ls) (filter p ls))
    step true true e f rest =
        ap (λ t. cond t (l ∷ filter p (filter q ls)) (filter p (filter q ls))) e ∙ ap (λ xs. l ∷ xs) rest ∙ sym (ap (λ t. cond t (l ∷ filter q (filter p ls)) (filter q (filter p ls))) f)
    step true false e f rest = rest ∙ sym (ap (λ t. cond t (l ∷ filter q (filter p ls)) (filter q (filter p ls))) f)
    step false true e f rest = ap (λ t. cond t (l ∷ filter p (filter q ls)) (filter p (filter q ls))) e ∙ rest
    step false false e f rest = rest

pub lawful-behind : (I : Instance) (c : ℕ) (stand : Stand) (from : ℕ) (ls ms : List Lockage)
    → AreLawfulFrom I c stand from (map group_of (ls ++ ms)) (map (λ l. l.start) (ls ++ ms))
    → AreLawfulFrom I c (stand_after_all stand ls) (done_after_all I c from ls) (map group_of ms) (map (λ l. l.start) ms)
lawful-behind I c stand from [] ms lawful = lawful
lawful-behind I c stand from (l ∷ ls) ms lawful = lawful-behind I c (stand_after l.way) (l.start + duration_of I c l.ships) ls ms lawful.1

turned-before : (I : Instance) (K : Plan) (c : ℕ) (stand : Stand) (way : Way) (from to : ℕ) → HasTurned (chamber_at I c) stand way from to → HasTurned (chamber_after I K c) stand way from to
turned-before I K c Low Up from to h = h
turned-before I K c Low Down from to h = record { at = h.at; after = h.after; before = h.before; free = h.free }
turned-before I K c High Up from to h = record { at = h.at; after = h.after; before = h.before; free = h.free }
turned-before I K c High Down from to h = h

rise-back : (ns : List ℕ) → IsStrictlyIncreasing ns → (ss : List ℕ) → All (λ s. s < length ns) ss → IsStrictlyIncreasing (map (number_of ns) ss) → IsStrictlyIncreasing ss
rise-back ns rise ss known rises k within =
    let count : length (map (number_of ns) ss) ≡ length ss = length-map ss (number_of ns) in
    let here : k < length ss = omega (arith, within) in
    let less : number_of ns (get_or ss k 0) < number_of ns (get_or ss (k + 1) 0) = omega (arith, rises k (omega (arith, within, count)), get_or-map (number_of ns) ss k 0 0 here, get_or-map (number_of ns) ss (k + 1) 0 0 within) in
    elim (leb_tells (suc (get_or ss k 0)) (get_or ss (k + 1) 0)) [
      | inl y ↦ omega (arith, y.1)
      | inr n ↦ elim (leb_tells (get_or ss k 0) (get_or ss (k + 1) 0)) [
        | inl y ↦
            let one : get_or ss k 0 ≡ get_or ss (k + 1) 0 = omega (arith, y.1, n.1) in
            absurd (omega (arith, less, ap (number_of ns) one))
        | inr m ↦ absurd (omega (arith, less, number-less ns rise (get_or ss (k + 1) 0) (get_or ss k 0) m.1 (known k 0 here)))
      ]
    ]

module _ (I R : Instance) (K : Plan) (M : ℕ) (rest : IsRest I K M R) where
  -- a lockage that is legal in the instance is so in the rest
  legal-back : (l : Lockage) → All (λ s. s < length (ships_left I K)) l.ships → IsLegalLockage I (renumbered (ships_left I K) l) → IsLegalLockage R l
  legal-back l known legal =
      let ns = ships_left I K in
      let deck = deck-rest I R K M rest l.chamber l.ships legal.chamber known in
      record {
        chamber = subst (λ n. l.chamber < n) (sym (rest-chambers I R K M rest)) legal.chamber;
        known = subst (λ n. All (λ s. s < n) l.ships) (sym (rest-ships I R K M rest)) known;
        rising = rise-back ns (left-rise I R K M rest) l.ships known legal.rising;
        count = subst (λ (x : Chamber). Within 1 x.most (length l.ships)) (sym (chamber-rest I R K M rest l.chamber legal.chamber)) (subst (Within 1 (chamber_at I l.chamber).most) (length-map l.ships (number_of ns)) legal.count);
        way = λ k d within.
            ap (λ (x : Ship). x.way) (ship-rest I R K M rest (get_or l.ships k d) (known k d within))
            ∙ ap (λ s. (ship_at I s).way) (sym (get_or-map (number_of ns) l.ships k d 0 within))
            ∙ legal.way k 0 (subst (λ n. k < n) (sym (length-map l.ships (number_of ns))) within);
        placed = subst (λ d. IsLegalPlacement d l.spots) (sym deck) legal.placed;
        clear = subst HasNoClash (sym deck) legal.clear;
      }

  start-back : (c : ℕ) (stand : Stand) (from : ℕ) (l : Lockage) → c < length I.chambers → All (λ s. s < length (ships_left I K)) l.ships → M ≤ l.start
      → IsLawfulStart I c stand from (group_of (renumbered (ships_left I K) l)) l.start → IsLawfulStart R c stand from (group_of l) l.start
  start-back c stand from l known ships late lawful =
      let ns = ships_left I K in
      record {
        arrived = λ k d within.
            omega (
              arith,
              late,
              ap (λ (x : Ship). x.arrival) (ship-rest I R K M rest (get_or l.ships k d) (ships k d within)),
              ap (λ s. (ship_at I s).arrival) (get_or-map (number_of ns) l.ships k d 0 within),
              lawful.arrived k 0 (subst (λ n. k < n) (sym (length-map l.ships (number_of ns))) within),
            );
        later = lawful.later;
        turned = subst (λ (x : Chamber). HasTurned x stand l.way from l.start) (sym (chamber-rest I R K M rest c known)) (turned-before I K c stand l.way from l.start lawful.turned);
        free =
            subst (λ (x : Chamber). IsFree x.closures l.start (l.start + duration_of R c l.ships)) (sym (chamber-rest I R K M rest c known))
            (subst (λ n. IsFree (chamber_at I c).closures l.start (l.start + n)) (sym (duration-rest I R K M rest c l.ships known ships)) lawful.free);
      }

  lawful-back : (c : ℕ) (stand : Stand) (from : ℕ) (ls : List Lockage) → c < length I.chambers → All (λ l. All (λ s. s < length (ships_left I K)) l.ships) ls → All (λ l. M ≤ l.start) ls
      → AreLawfulFrom I c stand from (map group_of (map (renumbered (ships_left I K)) ls)) (map (λ l. l.start) (map (renumbered (ships_left I K)) ls))
      → AreLawfulFrom R c stand from (map group_of ls) (map (λ l. l.start) ls)
  lawful-back c stand from [] known ships late lawful = tt
  lawful-back c stand from (l ∷ ls) known ships late lawful =
      let here = All-head (λ (l : Lockage). All (λ s. s < length (ships_left I K)) l.ships) l ls ships in
      let tail = subst (λ n. AreLawfulFrom I c (stand_after l.way) (l.start + n) (map group_of (map (renumbered (ships_left I K)) ls)) (map (λ l. l.start) (map (renumbered (ships_left I K)) ls))) (sym (duration-rest I R K M rest c l.ships known here)) lawful.1 in (
        start-back c stand from l known here (All-head (λ (l : Lockage). M ≤ l.start) l ls late) lawful.0,
        lawful-back c (stand_after l.way) (l.start + duration_of R c l.ships) ls known (All-tail (λ (l : Lockage). All (λ s. s < length (ships_left I K)) l.ships) l ls ships) (All-tail (λ (l : Lockage). M ≤ l.start) l ls late) tail,
      )

  module _ (part : IsLegalPart I K) (P : Plan) (legal : IsLegal I P) (keeps : Keeps K M P) where
    abbrev others : Plan
    others = record { lockages = filter (λ l. not (starts_before M l)) P.lockages }

    lines : (c : ℕ) → line_of P c ≡ line_of K c ++ line_of others c
    lines c =
        let own = λ (l : Lockage). nat_eq l.chamber c in
        let ls = filter own P.lockages in
        split-sorted M ls
        ∙ ap (λ xs. xs ++ sorted_by_start (filter (λ l. not (starts_before M l)) ls)) (sym (split-before M ls) ∙ keeps.lines c)
        ∙ ap (λ xs. line_of K c ++ sorted_by_start xs) (filter-swap (λ l. not (starts_before M l)) own P.lockages)

    sums : (f : Lockage → ℕ) → sum_by f P.lockages ≡ sum_by f K.lockages + sum_by f others.lockages
    sums f =
        let m = length I.chambers in
        let chambers = legal-chambers I P legal in
        sym (sum_by-lines f m P chambers)
        ∙ (λ i. sum_by (λ c. sum_by f (lines c i)) (numbers_from 0 m))
        ∙ (λ i. sum_by (λ c. sum_by-append f (line_of K c) (line_of others c) i) (numbers_from 0 m))
        ∙ omega (
          arith,
          sum_by-plus (λ c. sum_by f (line_of K c)) (λ c. sum_by f (line_of others c)) (numbers_from 0 m),
          sum_by-lines f m K (part-chambers I K part),
          sum_by-lines f m others (All-filter (λ l. not (starts_before M l)) (λ l. l.chamber < m) P.lockages chambers),
        )

    served : (s : ℕ) → s < length I.ships → served_in K.lockages s + served_in others.lockages s ≡ 1
    served s known =
        omega (arith, sums (λ l. times_in l.ships s), served_in-sum s P.lockages, served_in-sum s K.lockages, served_in-sum s others.lockages, legal.once s known)

    lockages : All (IsLegalLockage I) others.lockages
    lockages = All-filter (λ l. not (starts_before M l)) (IsLegalLockage I) P.lockages legal.lockage

    among : All (λ l. All (λ s. 1 ≤ times_in (ships_left I K) s) l.ships) others.lockages
    among = λ k d within j e inside.
        let l : Lockage = get_or others.lockages k d in
        let s : ℕ = get_or l.ships j e in
        let own : IsLegalLockage I l = lockages k d within in
        let known : s < length I.ships = own.known j e inside in
        let once : 1 ≤ times_in l.ships s = times_in-at l.ships j e inside in
        let none : served_in K.lockages s ≡ 0 = omega (arith, served s known, served_in-sum s others.lockages, get_or-le-sum_by (λ (l : Lockage). times_in l.ships s) others.lockages k d within, once) in
        let found : times_in (ships_left I K) s ≡ 1 = times_in-filter (λ s. nat_eq (served_in K.lockages s) 0) (numbers_from 0 (length I.ships)) s (ap (λ n. nat_eq n 0) none) ∙ times_in-between 0 (length I.ships) s (omega arith) (omega (arith, known)) in
        omega (arith, found)

    -- the plan of the rest
    abbrev pub back : Plan
    back = record { lockages = map (unnumbered (ships_left I K)) others.lockages }

    again : map (renumbered (ships_left I K)) back.lockages ≡ others.lockages
    again = back-lockages (ships_left I K) others.lockages among

    back-known : All (λ l. All (λ s. s < length (ships_left I K)) l.ships) back.lockages
    back-known =
        All-map (λ (l : Lockage). All (λ s. s < length (ships_left I K)) l.ships) (unnumbered (ships_left I K)) others.lockages
        (λ k d within. let l : Lockage = get_or others.lockages k d in
        All-map (λ s. s < length (ships_left I K)) (index_in (ships_left I K)) l.ships (λ j e inside. index_in-known (ships_left I K) (get_or l.ships j e) (among k d within j e inside)))

    pub back-late : All (λ l. M ≤ l.start) back.lockages
    back-late = All-map (λ (l : Lockage). M ≤ l.start) (unnumbered (ships_left I K)) others.lockages (late-part M P.lockages)

    back-once : (t : ℕ) → t < length R.ships → served_in back.lockages t ≡ 1
    back-once t within =
        let ns = ships_left I K in
        let here : t < length ns = subst (λ n. t < n) (rest-ships I R K M rest) within in
        let none : served_in K.lockages (number_of ns t) ≡ 0 = eqb-true (served_in K.lockages (number_of ns t)) 0 (filter_passes (λ s. nat_eq (served_in K.lockages s) 0) (numbers_from 0 (length I.ships)) t 0 here) in
        omega (
          arith,
          served-renumbered ns (left-rise I R K M rest) back.lockages t back-known here,
          ap (λ ls. served_in ls (number_of ns t)) again,
          served (number_of ns t) (left-known I K t 0 here),
          none,
        )

    back-line : (c : ℕ) → map (renumbered (ships_left I K)) (line_of back c) ≡ line_of others c
    back-line c =
        let ns = ships_left I K in
        sym (sorted-renumbered ns (filter (λ l. nat_eq l.chamber c) back.lockages))
        ∙ ap sorted_by_start (sym (filter-renumbered ns c back.lockages) ∙ ap (filter (λ l. nat_eq l.chamber c)) again)

    back-timely : (c : ℕ) → c < length R.chambers → IsTimely R back c
    back-timely c within =
        let known : c < length I.chambers = subst (λ n. c < n) (rest-chambers I R K M rest) within in
        let whole = subst (λ ls. AreLawfulFrom I c (chamber_at I c).stands (chamber_at I c).opens (map group_of ls) (map (λ l. l.start) ls)) (lines c ∙ ap (λ ms. line_of K c ++ ms) (sym (back-line c))) (legal.timely c known).lawful in
        let behind = lawful-behind I c (chamber_at I c).stands (chamber_at I c).opens (line_of K c) (map (renumbered (ships_left I K)) (line_of back c)) whole in
        let lawful = lawful-back c (chamber_after I K c).stands (chamber_after I K c).opens (line_of back c) known
        (All-line (λ l. All (λ s. s < length (ships_left I K)) l.ships) back c back-known) (All-line (λ l. M ≤ l.start) back c back-late) behind in
        record {
          lawful = subst (λ (x : Chamber). AreLawfulFrom R c x.stands x.opens (map group_of (line_of back c)) (map (λ l. l.start) (line_of back c))) (sym (chamber-rest I R K M rest c known)) lawful;
        }

    pub back-legal : IsLegal R back
    back-legal = record {
      once = back-once;
      lockage = λ k d within.
          legal-back (get_or back.lockages k d) (back-known k d within)
          (subst (IsLegalLockage I) (get_or-map (renumbered (ships_left I K)) back.lockages k d d within) (subst (All (IsLegalLockage I)) (sym again) lockages k d (subst (λ n. k < n) (sym (length-map back.lockages (renumbered (ships_left I K)))) within)));
      timely = back-timely;
    }

    pub back-lines : (c : ℕ) → line_of P c ≡ line_of K c ++ map (renumbered (ships_left I K)) (line_of back c)
    back-lines c = lines c ∙ ap (λ ms. line_of K c ++ ms) (sym (back-line c))

    pub back-cost : cost_of I P ≡ cost_of R back + added_of I K M
    back-cost =
        omega (
          arith,
          sums (flow_in I),
          cost-joined I R K M rest back back-legal,
          sum_by-append (flow_in I) K.lockages (map (renumbered (ships_left I K)) back.lockages),
          ap (sum_by (flow_in I)) again,
        )
