-- The places of a chamber's line, and the ships that are moored for its lockages.
use Rattle.std.proofs.Common.{◌≡◌, ℕ, zero, suc, ◌+◌, ◌<◌, ◌≤◌, List, [], ◌∷◌, ◌++◌, length, filter, cond, Bool, true, false, nat_eq, nat_le, inl, inr, refl, ap, sym, subst, ◌∙◌, arith, sum_by, eq-eqb, get_or}
use Rattle.std.proofs.lemmas.Bool.{eqb-true}
use Rattle.std.proofs.lemmas.Bool.Decides.{leb_tells}
use Rattle.std.proofs.lemmas.List.Sums.{sum_by-cons}
use Rattle.lock_model.specs.declared.instance.Instance.{Instance}
use Rattle.lock_model.specs.declared.plan.Lockage.{Lockage}
use Rattle.lock_model.specs.declared.plan.Plan.{Plan}
use Rattle.lock_model.specs.declared.way.Stand.{Stand}
use Rattle.lock_model.specs.declared.way.Stand.TheVariants.{Low, High}
use Rattle.lock_model.specs.declared.way.Way.{Way}
use Rattle.lock_model.specs.declared.way.Way.TheVariants.{Up, Down}
use Rattle.lock_model.specs.Fleet.{chamber_at}
use Rattle.lock_rules.proofs.AmongLemmas.{among-filter, among-numbers}
use Rattle.lock_rules.specs.Arrival.{numbers_from}
use Rattle.lock_rules.specs.Lawful.{duration_of, stand_after}
use Rattle.lock_rules.specs.Lines.{lockage_at, line_of}
use Rattle.lock_rules.specs.Plan.{IsLegal, times_in}
use Rattle.lock_rules.proofs.LineLemmas.{sum_by-lines}
use Rattle.lock_rules.proofs.BoundLemmas.{IsAmong-filter, IsAmong-numbers}
use Rattle.lock_rules.proofs.SplitLemmas.{served_in-sum}
use Rattle.lock_rules.proofs.CountLemmas.{served_in-outside, times_in-between, times_in-above}
use Rattle.lock_rules.proofs.LegalLemmas.{legal-chambers, legal-ships}
use Rattle.chamber_times.specs.Walk.{lockages_at, line_places, insert_place, sorted_places}
use Rattle.chamber_times.proofs.WalkLemmas.{lockages_at-line}
use Rattle.day_play.specs.Order.{put_by, put_each, minute_of, IsOrdered}
use Rattle.list_laws.specs.Among.{IsAmong}
use Rattle.day_play.specs.Lawful.{ship_of}
use Rattle.day_play.specs.ComingIn.{end_distance, by_depth, next_of, in_turn}
use Rattle.day_play.specs.Playing.{moor_order, moor_beat, moor_beats, turn_beats, go_beat, done_beat, lockage_beats, line_beats, chamber_beats, beats_of}
use Rattle.day_play.specs.declared.beat.Beat.{Beat}
use Rattle.std.specs.List.{remove}
use Rattle.day_play.proofs.InTurnLemmas.{next-within, left-long}
use Rattle.day_play.proofs.ComingLemmas.{depth-long}
use Rattle.day_play.proofs.RunLemmas.{moor_count, moors_in}

module _ (P : Plan) where
  insert_place-from : (p : ℕ) (ps : List ℕ) (q : ℕ) → IsAmong (insert_place P p ps) q → IsAmong (p ∷ ps) q
  insert_place-from p [] q h = h
  insert_place-from p (r ∷ ps) q h =
      elim (nat_le (lockage_at P p).start (lockage_at P r).start) as (λ b. IsAmong (cond b (p ∷ r ∷ ps) (r ∷ insert_place P p ps)) q → IsAmong (p ∷ r ∷ ps) q) [
        | true ↦ λ h. h
        | false ↦ λ h. elim h [
          | inl first ↦ inr (inl first)
          | inr later ↦ elim (insert_place-from p ps q later) [
            | inl here ↦ inl here
            | inr rest ↦ inr (inr rest)
          ]
        ]
      ] h

  insert_place-among : (p : ℕ) (ps : List ℕ) (q : ℕ) → IsAmong (p ∷ ps) q → IsAmong (insert_place P p ps) q
  insert_place-among p [] q h = h
  insert_place-among p (r ∷ ps) q h =
      elim (nat_le (lockage_at P p).start (lockage_at P r).start) as (λ b. IsAmong (cond b (p ∷ r ∷ ps) (r ∷ insert_place P p ps)) q) [
        | true ↦ h
        | false ↦ elim h [
          | inl here ↦ inr (insert_place-among p ps q (inl here))
          | inr old ↦ elim old [
            | inl first ↦ inl first
            | inr rest ↦ inr (insert_place-among p ps q (inr rest))
          ]
        ]
      ]

  sorted_places-from : (ps : List ℕ) (q : ℕ) → IsAmong (sorted_places P ps) q → IsAmong ps q
  sorted_places-from [] q h = h
  sorted_places-from (p ∷ ps) q h =
      elim (insert_place-from p (sorted_places P ps) q h) [
        | inl here ↦ inl here
        | inr later ↦ inr (sorted_places-from ps q later)
      ]

  sorted_places-among : (ps : List ℕ) (q : ℕ) → IsAmong ps q → IsAmong (sorted_places P ps) q
  sorted_places-among [] q h = h
  sorted_places-among (p ∷ ps) q (inl here) = insert_place-among p (sorted_places P ps) q (inl here)
  sorted_places-among (p ∷ ps) q (inr later) = insert_place-among p (sorted_places P ps) q (inr (sorted_places-among ps q later))

  -- the places of a chamber's line are those of its lockages
  pub line_places-from : (c q : ℕ) → IsAmong (line_places P c) q → (q < length P.lockages) × ((lockage_at P q).chamber ≡ c)
  line_places-from c q h =
      let some = among-filter (λ p. nat_eq (lockage_at P p).chamber c) (numbers_from 0 (length P.lockages)) q
      (sorted_places-from (filter (λ p. nat_eq (lockage_at P p).chamber c) (numbers_from 0 (length P.lockages))) q h) in
      (omega (arith, (among-numbers 0 (length P.lockages) q some.0).1), eqb-true (lockage_at P q).chamber c some.1)

  pub line_places-among : (q : ℕ) → q < length P.lockages → IsAmong (line_places P (lockage_at P q).chamber) q
  line_places-among q known =
      let c = (lockage_at P q).chamber in
      sorted_places-among (filter (λ p. nat_eq (lockage_at P p).chamber c) (numbers_from 0 (length P.lockages))) q
      (IsAmong-filter (λ p. nat_eq (lockage_at P p).chamber c) (numbers_from 0 (length P.lockages)) q (eq-eqb c c refl) (IsAmong-numbers 0 (length P.lockages) q (omega arith) (omega (arith, known))))

filter-few : (t : ℕ → Bool) (xs : List ℕ) (q : ℕ) → times_in (filter t xs) q ≤ times_in xs q
filter-few t [] q = omega arith
filter-few t (x ∷ xs) q =
    let rest = filter-few t xs q in
    elim (t x) as (λ b. times_in (cond b (x ∷ filter t xs) (filter t xs)) q ≤ times_in (x ∷ xs) q) [
      | true ↦ more (cond (nat_eq x q) 1 0) (times_in (filter t xs) q) (times_in xs q) rest
      | false ↦ fewer (cond (nat_eq x q) 1 0) (times_in (filter t xs) q) (times_in xs q) rest
    ]
  where
    more : (a b c : ℕ) → b ≤ c → a + b ≤ a + c
    more a b c h = omega (arith, h)

    fewer : (a b c : ℕ) → b ≤ c → b ≤ a + c
    fewer a b c h = omega (arith, h)

numbers-once : (n q : ℕ) → times_in (numbers_from 0 n) q ≤ 1
numbers-once n q =
    elim (leb_tells n q) [
      | inl past ↦ omega (arith, times_in-above 0 n q (omega (arith, past.1)))
      | inr here ↦ omega (arith, times_in-between 0 n q (omega arith) (omega (arith, here.1)))
    ]

module _ (P : Plan) where
  -- the start of lockage p
  abbrev pub start_at : ℕ → ℕ
  start_at p = (lockage_at P p).start

  times_in-insert_place : (p : ℕ) (ps : List ℕ) (q : ℕ) → times_in (insert_place P p ps) q ≡ times_in (p ∷ ps) q
  times_in-insert_place p [] q = refl
  times_in-insert_place p (r ∷ ps) q =
      elim (nat_le (lockage_at P p).start (lockage_at P r).start) as (λ b. times_in (cond b (p ∷ r ∷ ps) (r ∷ insert_place P p ps)) q ≡ times_in (p ∷ r ∷ ps) q) [
        | true ↦ refl
        | false ↦ swap (cond (nat_eq r q) 1 0) (times_in (insert_place P p ps) q) (cond (nat_eq p q) 1 0) (times_in ps q) (times_in-insert_place p ps q)
      ]
    where
      swap : (a b c d : ℕ) → b ≡ c + d → a + b ≡ c + (a + d)
      swap a b c d e = omega (arith, e)

  times_in-sorted_places : (ps : List ℕ) (q : ℕ) → times_in (sorted_places P ps) q ≡ times_in ps q
  times_in-sorted_places [] q = refl
  times_in-sorted_places (p ∷ ps) q = times_in-insert_place p (sorted_places P ps) q ∙ ap (λ n. cond (nat_eq p q) 1 0 + n) (times_in-sorted_places ps q)

  insert_place-ordered : (low p : ℕ) (ps : List ℕ) → low ≤ start_at p → IsOrdered start_at low ps → IsOrdered start_at low (insert_place P p ps)
  insert_place-ordered low p [] less order = (less, tt)
  insert_place-ordered low p (r ∷ ps) less order =
      elim (leb_tells (start_at p) (start_at r)) [
        | inl sooner ↦ subst (λ b. IsOrdered start_at low (cond b (p ∷ r ∷ ps) (r ∷ insert_place P p ps))) (sym sooner.0) (less, (sooner.1, order.1))
        | inr later ↦ subst (λ b. IsOrdered start_at low (cond b (p ∷ r ∷ ps) (r ∷ insert_place P p ps))) (sym later.0) (order.0, insert_place-ordered (start_at r) p ps (omega (arith, later.1)) order.1)
      ]

  sorted_places-ordered : (ps : List ℕ) → IsOrdered start_at 0 (sorted_places P ps)
  sorted_places-ordered [] = tt
  sorted_places-ordered (p ∷ ps) = insert_place-ordered 0 p (sorted_places P ps) (omega arith) (sorted_places-ordered ps)

  -- the starts along a line never fall
  pub line_places-ordered : (c : ℕ) → IsOrdered start_at 0 (line_places P c)
  line_places-ordered c = sorted_places-ordered (filter (λ p. nat_eq (lockage_at P p).chamber c) (numbers_from 0 (length P.lockages)))

  -- each lockage has one place in the lines
  pub line_places-once : (c q : ℕ) → times_in (line_places P c) q ≤ 1
  line_places-once c q =
      let test = λ (p : ℕ). nat_eq (lockage_at P p).chamber c in
      omega (
        arith,
        times_in-sorted_places (filter test (numbers_from 0 (length P.lockages))) q,
        filter-few test (numbers_from 0 (length P.lockages)) q,
        numbers-once (length P.lockages) q,
      )

-- how often some beats moor a ship
pub moors_in-append : (xs ys : List Beat) (i : ℕ) → moors_in (xs ++ ys) i ≡ moors_in xs i + moors_in ys i
moors_in-append [] ys i = omega arith
moors_in-append (x ∷ xs) ys i = omega (arith, moors_in-append xs ys i)

moors_in-put_by : (b : Beat) (bs : List Beat) (i : ℕ) → moors_in (put_by minute_of b bs) i ≡ moor_count b.act i + moors_in bs i
moors_in-put_by b [] i = refl
moors_in-put_by b (x ∷ bs) i =
    elim (nat_le x.minute b.minute) as (λ t. moors_in (cond t (x ∷ put_by minute_of b bs) (b ∷ x ∷ bs)) i ≡ moor_count b.act i + moors_in (x ∷ bs) i) [
      | true ↦ (let rest = moors_in-put_by b bs i in swap (moor_count x.act i) (moor_count b.act i) (moors_in bs i) (moors_in (put_by minute_of b bs) i) rest)
      | false ↦ refl
    ]
  where
    swap : (x b m n : ℕ) → n ≡ b + m → x + n ≡ b + (x + m)
    swap x b m n e = omega (arith, e)

pub moors_in-put_each : (bs xs : List Beat) (i : ℕ) → moors_in (put_each minute_of bs xs) i ≡ moors_in bs i + moors_in xs i
moors_in-put_each bs [] i = omega arith
moors_in-put_each bs (x ∷ xs) i = add (moors_in (put_each minute_of (put_by minute_of x bs) xs) i) (moors_in (put_by minute_of x bs) i) (moors_in bs i) (moor_count x.act i) (moors_in xs i) (moors_in-put_each (put_by minute_of x bs) xs i) (moors_in-put_by x bs i)
  where
    add : (a b c d e : ℕ) → a ≡ b + e → b ≡ d + c → a ≡ c + (d + e)
    add a b c d e first second = omega (arith, first, second)

module _ (p : ℕ) (l : Lockage) (key : ℕ → ℕ) (i : ℕ) where
  moors-put_by : (k : ℕ) (ks : List ℕ) → moors_in (moor_beats p l (put_by key k ks)) i ≡ moors_in (moor_beats p l (k ∷ ks)) i
  moors-put_by k [] = refl
  moors-put_by k (j ∷ ks) =
      elim (nat_le (key j) (key k)) as (λ t. moors_in (moor_beats p l (cond t (j ∷ put_by key k ks) (k ∷ j ∷ ks))) i ≡ moors_in (moor_beats p l (k ∷ j ∷ ks)) i) [
        | true ↦ swap (moor_count (moor_beat p l j).act i) (moor_count (moor_beat p l k).act i) (moors_in (moor_beats p l ks) i) (moors_in (moor_beats p l (put_by key k ks)) i) (moors-put_by k ks)
        | false ↦ refl
      ]
    where
      swap : (x b m n : ℕ) → n ≡ b + m → x + n ≡ b + (x + m)
      swap x b m n e = omega (arith, e)

  moors-put_each : (ys xs : List ℕ) → moors_in (moor_beats p l (put_each key ys xs)) i ≡ moors_in (moor_beats p l ys) i + moors_in (moor_beats p l xs) i
  moors-put_each ys [] = omega arith
  moors-put_each ys (x ∷ xs) =
      add (moors_in (moor_beats p l (put_each key (put_by key x ys) xs)) i) (moors_in (moor_beats p l (put_by key x ys)) i) (moors_in (moor_beats p l ys) i) (moor_count (moor_beat p l x).act i) (moors_in (moor_beats p l xs) i)
      (moors-put_each (put_by key x ys) xs) (moors-put_by x ys)
    where
      add : (a b c d e : ℕ) → a ≡ b + e → b ≡ d + c → a ≡ c + (d + e)
      add a b c d e first second = omega (arith, first, second)

  moors-remove : (ks : List ℕ) (at : ℕ) → at < length ks → moors_in (moor_beats p l ks) i ≡ moor_count (moor_beat p l (get_or ks at 0)).act i + moors_in (moor_beats p l (remove ks at)) i
  moors-remove [] at within = absurd (omega (arith, within))
  moors-remove (k ∷ ks) zero within = refl
  moors-remove (k ∷ ks) (suc at) within =
      swap (moor_count (moor_beat p l k).act i) (moors_in (moor_beats p l ks) i) (moor_count (moor_beat p l (get_or ks at 0)).act i) (moors_in (moor_beats p l (remove ks at)) i) (moors-remove ks at (omega (arith, within)))
    where
      swap : (a b c d : ℕ) → b ≡ c + d → a + b ≡ c + (a + d)
      swap a b c d e = omega (arith, e)

  moors-in_turn : (I : Instance) (n : ℕ) (ks : List ℕ) → length ks ≡ n → moors_in (moor_beats p l (in_turn I l n ks)) i ≡ moors_in (moor_beats p l ks) i
  moors-in_turn I zero [] count = refl
  moors-in_turn I zero (k ∷ ks) count = absurd (omega (arith, count))
  moors-in_turn I (suc n) ks count =
      let at = next_of I l ks in
      let within = next-within I l ks (omega (arith, count)) in
      ap (λ n. moor_count (moor_beat p l (get_or ks at 0)).act i + n) (moors-in_turn I n (remove ks at) (left-long I l n ks count)) ∙ sym (moors-remove ks at within)

  moors-numbers : (low : ℕ) (ships : List ℕ) → ((k : ℕ) → ship_of l (low + k) ≡ get_or ships k 0) → moors_in (moor_beats p l (numbers_from low (length ships))) i ≡ times_in ships i
  moors-numbers low [] reads = refl
  moors-numbers low (s ∷ ships) reads =
      let zeroth : low + 0 ≡ low = omega arith in
      let here : ship_of l low ≡ s = ap (ship_of l) (sym zeroth) ∙ reads 0 in
      let others : (k : ℕ) → ship_of l (suc low + k) ≡ get_or ships k 0 = λ k. (let next : suc low + k ≡ low + suc k = omega arith in ap (ship_of l) next ∙ reads (suc k)) in
      ap (λ s. cond (nat_eq s i) 1 0 + moors_in (moor_beats p l (numbers_from (suc low) (length ships))) i) here
      ∙ ap (λ n. cond (nat_eq s i) 1 0 + n) (moors-numbers (suc low) ships others)

module _ (I : Instance) (i : ℕ) where
  turns-none : (p : ℕ) (l : Lockage) (from : ℕ) (stand : Stand) (way : Way) → moors_in (turn_beats I p l from stand way) i ≡ 0
  turns-none p l from Low Up = refl
  turns-none p l from Low Down = refl
  turns-none p l from High Up = refl
  turns-none p l from High Down = refl

  moors-order : (p : ℕ) (l : Lockage) → moors_in (moor_beats p l (moor_order I l)) i ≡ times_in l.ships i
  moors-order p l =
      omega (
        arith,
        moors-in_turn p l (end_distance I l l.way) i I (length l.ships) (by_depth I l) (depth-long I l),
        moors-put_each p l (end_distance I l l.way) i [] (numbers_from 0 (length l.ships)),
        moors-numbers p l (end_distance I l l.way) i 0 l.ships (λ k. (let same : 0 + k ≡ k = omega arith in ap (ship_of l) same)),
      )

  lockage-moors : (p : ℕ) (l : Lockage) (stand : Stand) (from : ℕ) → moors_in (lockage_beats I p l stand from) i ≡ times_in l.ships i
  lockage-moors p l stand from =
      let ts = turn_beats I p l from stand l.way in
      let ms = moor_beats p l (moor_order I l) in
      let ends = go_beat p l ∷ done_beat I p l ∷ [] in
      let none : moors_in ends i ≡ 0 = refl in
      omega (arith, moors_in-append ts (ms ++ ends) i, moors_in-append ms ends i, turns-none p l from stand l.way, moors-order p l, none)

  abbrev pub times : Lockage → ℕ
  times l = times_in l.ships i

  pub line-moors : (P : Plan) (stand : Stand) (from : ℕ) (ps : List ℕ) → moors_in (line_beats I P stand from ps) i ≡ sum_by times (lockages_at P ps)
  line-moors P stand from [] = refl
  line-moors P stand from (p ∷ ps) =
      let l = lockage_at P p in
      let rest = line_beats I P (stand_after l.way) (l.start + duration_of I l.chamber l.ships) ps in
      omega (
        arith,
        moors_in-append (lockage_beats I p l stand from) rest i,
        lockage-moors p l stand from,
        line-moors P (stand_after l.way) (l.start + duration_of I l.chamber l.ships) ps,
        sum_by-cons times l (lockages_at P ps),
      )

  chambers-moors : (P : Plan) (cs : List ℕ) → moors_in (beats_of I P cs) i ≡ sum_by (λ c. sum_by times (line_of P c)) cs
  chambers-moors P [] = refl
  chambers-moors P (c ∷ cs) =
      omega (
        arith,
        moors_in-append (chamber_beats I P c) (beats_of I P cs) i,
        line-moors P (chamber_at I c).stands (chamber_at I c).opens (line_places P c),
        ap (sum_by times) (lockages_at-line P c),
        chambers-moors P cs,
        sum_by-cons (λ c. sum_by times (line_of P c)) c cs,
      )

  -- NO SHIP IS MOORED TWICE on the day of a legal plan.
  pub moors-few : (P : Plan) → IsLegal I P → moors_in (beats_of I P (numbers_from 0 (length I.chambers))) i ≤ 1
  moors-few P legal =
      let all = chambers-moors P (numbers_from 0 (length I.chambers)) in
      let lines = sum_by-lines times (length I.chambers) P (legal-chambers I P legal) in
      let served = served_in-sum i P.lockages in
      elim (leb_tells (length I.ships) i) [
        | inl past ↦ omega (arith, all, lines, served, served_in-outside (length I.ships) P.lockages i (legal-ships I P legal) past.1)
        | inr here ↦ omega (arith, all, lines, served, legal.once i here.1)
      ]
