-- Each lockage of a plan begins once on the day that is played of it.
use Rattle.std.proofs.Common.{◌≡◌, ℕ, suc, ◌+◌, ◌<◌, ◌≤◌, List, [], ◌∷◌, ◌++◌, length, filter, sum_by, cond, Bool, true, false}
use Rattle.std.proofs.Common.{nat_eq, nat_le, inl, inr, refl, ap, ◌∙◌, arith}
use Rattle.std.proofs.lemmas.Bool.Decides.{eqb_tells, leb_tells}
use Rattle.std.proofs.lemmas.List.Sums.{sum_by-cons}
use Rattle.lock_model.specs.declared.instance.Instance.{Instance}
use Rattle.lock_model.specs.declared.plan.Lockage.{Lockage}
use Rattle.lock_model.specs.declared.plan.Plan.{Plan}
use Rattle.lock_model.specs.declared.way.Stand.{Stand}
use Rattle.lock_model.specs.declared.way.Stand.TheVariants.{Low, High}
use Rattle.lock_model.specs.declared.way.Way.{Way}
use Rattle.lock_model.specs.declared.way.Way.TheVariants.{Up, Down}
use Rattle.lock_rules.specs.Arrival.{numbers_from}
use Rattle.lock_rules.specs.Lawful.{duration_of, stand_after}
use Rattle.lock_rules.specs.Lines.{lockage_at}
use Rattle.lock_rules.specs.Plan.{times_in}
use Rattle.lock_rules.proofs.CountLemmas.{times_in-above, times_in-between}
use Rattle.lock_rules.proofs.LineLemmas.{sum_by-once}
use Rattle.chamber_times.specs.Walk.{insert_place, sorted_places, line_places}
use Rattle.day_play.specs.Order.{put_by, put_each, minute_of}
use Rattle.day_play.specs.Playing.{moor_beats, moor_order, turn_beats, lockage_beats, line_beats, chamber_beats, beats_of, day_of}
use Rattle.day_play.specs.declared.beat.Act.TheVariants.{Go, Done}
use Rattle.day_play.specs.declared.beat.Beat.{Beat}
use Rattle.picture_page.specs.Passages.{is_go}

-- one, where the lockage at place p of the plan begins in a beat
abbrev pub one : Beat → ℕ → ℕ
one b p = cond (is_go b.act) (cond (nat_eq b.lockage p) 1 0) 0

-- how often it begins in these beats
abbrev pub begins : List Beat → ℕ → ℕ
begins [] p = 0
begins (b ∷ bs) p = one b p + begins bs p

-- ---- in lists that are put together and put in order

begins-append : (ds bs : List Beat) (p : ℕ) → begins (ds ++ bs) p ≡ begins ds p + begins bs p
begins-append [] bs p = omega arith
begins-append (a ∷ ds) bs p = omega (arith, begins-append ds bs p)

begins-put_by : (b : Beat) (bs : List Beat) (p : ℕ) → begins (put_by minute_of b bs) p ≡ one b p + begins bs p
begins-put_by b [] p = refl
begins-put_by b (a ∷ ds) p =
    elim (nat_le a.minute b.minute) as (λ h. begins (cond h (a ∷ put_by minute_of b ds) (b ∷ a ∷ ds)) p ≡ one b p + (one a p + begins ds p)) [
      | true ↦ omega (arith, begins-put_by b ds p)
      | false ↦ refl
    ]

begins-put_each : (ds bs : List Beat) (p : ℕ) → begins (put_each minute_of ds bs) p ≡ begins ds p + begins bs p
begins-put_each ds [] p = omega arith
begins-put_each ds (b ∷ bs) p = omega (arith, begins-put_each (put_by minute_of b ds) bs p, begins-put_by b ds p)

-- ---- in the beats of a lockage, a line and the chambers

begins-moor_beats : (q : ℕ) (l : Lockage) (ks : List ℕ) (p : ℕ) → begins (moor_beats q l ks) p ≡ 0
begins-moor_beats q l [] p = refl
begins-moor_beats q l (k ∷ ks) p = omega (arith, begins-moor_beats q l ks p)

begins-turn_beats : (I : Instance) (q : ℕ) (l : Lockage) (from : ℕ) (stand : Stand) (way : Way) (p : ℕ) → begins (turn_beats I q l from stand way) p ≡ 0
begins-turn_beats I q l from Low Up p = refl
begins-turn_beats I q l from Low Down p = refl
begins-turn_beats I q l from High Up p = refl
begins-turn_beats I q l from High Down p = refl

begins-lockage_beats : (I : Instance) (q : ℕ) (l : Lockage) (stand : Stand) (from p : ℕ) → begins (lockage_beats I q l stand from) p ≡ cond (nat_eq q p) 1 0
begins-lockage_beats I q l stand from p =
    let turns = turn_beats I q l from stand l.way in
    let moors = moor_beats q l (moor_order I l) in
    let ends : List Beat = record { minute = l.start; chamber = l.chamber; lockage = q; act = Go } ∷ record {
      minute =
          l.start + duration_of I l.chamber l.ships;
      chamber = l.chamber;
      lockage = q;
      act = Done;
    } ∷ [] in
    let last : begins ends p ≡ cond (nat_eq q p) 1 0 + 0 = refl in
    omega (
      arith,
      begins-append turns (moors
          ++ ends) p,
      begins-append moors ends p,
      begins-turn_beats I q l from stand l.way p,
      begins-moor_beats q l (moor_order I l) p,
      last,
    )

begins-line_beats : (I : Instance) (P : Plan) (stand : Stand) (from : ℕ) (ps : List ℕ) (p : ℕ) → begins (line_beats I P stand from ps) p ≡ times_in ps p
begins-line_beats I P stand from [] p = refl
begins-line_beats I P stand from (q ∷ qs) p =
    let l = lockage_at P q in
    let next = l.start + duration_of I l.chamber l.ships in
    omega (
      arith,
      begins-append (lockage_beats I q l stand from) (line_beats I P (stand_after l.way) next qs) p,
      begins-lockage_beats I q l stand from p,
      begins-line_beats I P (stand_after l.way) next qs p,
    )

times_in-insert_place : (P : Plan) (q : ℕ) (qs : List ℕ) (p : ℕ) → times_in (insert_place P q qs) p ≡ cond (nat_eq q p) 1 0 + times_in qs p
times_in-insert_place P q [] p = refl
times_in-insert_place P q (r ∷ rs) p =
    elim (nat_le (lockage_at P q).start (lockage_at P r).start) as (λ h. times_in (cond h (q ∷ r ∷ rs) (r ∷ insert_place P q rs)) p
    ≡ cond (nat_eq q p) 1 0 + (cond (nat_eq r p) 1 0 + times_in rs p)) [
      | true ↦ refl
      | false ↦ omega (arith, times_in-insert_place P q rs p)
    ]

times_in-sorted_places : (P : Plan) (qs : List ℕ) (p : ℕ) → times_in (sorted_places P qs) p ≡ times_in qs p
times_in-sorted_places P [] p = refl
times_in-sorted_places P (q ∷ qs) p = omega (arith, times_in-insert_place P q (sorted_places P qs) p, times_in-sorted_places P qs p)

pub times_in-passing : (test : ℕ → Bool) (qs : List ℕ) (p : ℕ) → times_in (filter test qs) p ≡ cond (test p) (times_in qs p) 0
times_in-passing test [] p = none (test p)
  where
    none : (h : Bool) → times_in [] p ≡ cond h (times_in [] p) 0
    none true = refl
    none false = refl
times_in-passing test (q ∷ qs) p =
    elim (eqb_tells q p) [
      | inl same ↦ own (test q) (test p) (ap test same.1) (nat_eq q p) (times_in-passing test qs p)
      | inr other ↦
          let miss : ◌≡◌ {A = ℕ} (cond (nat_eq q p) 1 0) 0 = ap (λ b. cond b 1 0) other.0 in
          apart (test q) (test p) miss (times_in-passing test qs p)
    ]
  where
    own : (g h : Bool) → g ≡ h → (e : Bool) → times_in (filter test qs) p ≡ cond h (times_in qs p) 0
        → times_in (cond g (q ∷ filter test qs) (filter test qs)) p ≡ cond h (cond (nat_eq q p) 1 0 + times_in qs p) 0
    own true true is e rest = omega (arith, rest)
    own false false is e rest = rest
    own true false is e rest = absurd cc
    own false true is e rest = absurd cc

    apart : (g h : Bool) → ◌≡◌ {A = ℕ} (cond (nat_eq q p) 1 0) 0 → times_in (filter test qs) p ≡ cond h (times_in qs p) 0
        → times_in (cond g (q ∷ filter test qs) (filter test qs)) p ≡ cond h (cond (nat_eq q p) 1 0 + times_in qs p) 0
    apart true true miss rest = omega (arith, miss, rest)
    apart true false miss rest = omega (arith, miss, rest)
    apart false true miss rest = omega (arith, miss, rest)
    apart false false miss rest = rest

module _ (I : Instance) (P : Plan) (p : ℕ) where
  abbrev listed : ℕ
  listed = times_in (numbers_from 0 (length P.lockages)) p

  begins-chamber : (c : ℕ) → begins (chamber_beats I P c) p ≡ cond (nat_eq (lockage_at P p).chamber c) listed 0
  begins-chamber c =
      let places = filter (λ q. nat_eq (lockage_at P q).chamber c) (numbers_from 0 (length P.lockages)) in
      begins-line_beats I P _ _ (line_places P c) p ∙ times_in-sorted_places P places p
      ∙ times_in-passing (λ q. nat_eq (lockage_at P q).chamber c) (numbers_from 0 (length P.lockages)) p

  begins-beats_of : (cs : List ℕ) → begins (beats_of I P cs) p ≡ sum_by (λ c. cond (nat_eq (lockage_at P p).chamber c) listed 0) cs
  begins-beats_of [] = refl
  begins-beats_of (c ∷ cs) =
      omega (
        arith,
        begins-append (chamber_beats I P c) (beats_of I P cs) p,
        begins-chamber c,
        begins-beats_of cs,
        sum_by-cons (λ c. cond (nat_eq (lockage_at P p).chamber c) listed 0) c cs,
      )

  begins-day : begins (day_of I P) p ≡ sum_by (λ c. cond (nat_eq (lockage_at P p).chamber c) listed 0) (numbers_from 0 (length I.chambers))
  begins-day =
      let chambers = numbers_from 0 (length I.chambers) in
      omega (arith, begins-put_each [] (beats_of I P chambers) p, begins-beats_of chambers)

  -- A LOCKAGE OF THE PLAN BEGINS ONCE.
  pub begins-once : p < length P.lockages → (lockage_at P p).chamber < length I.chambers → begins (day_of I P) p ≡ 1
  begins-once within chamber =
      begins-day ∙ sum_by-once (lockage_at P p).chamber listed 0 (length I.chambers) (omega arith) (omega (arith, chamber))
      ∙ times_in-between 0 (length P.lockages) p (omega arith) (omega (arith, within))

  none-sum : listed ≡ 0 → (cs : List ℕ) → sum_by (λ c. cond (nat_eq (lockage_at P p).chamber c) listed 0) cs ≡ 0
  none-sum none [] = refl
  none-sum none (c ∷ cs) =
      omega (arith, sum_by-cons (λ c. cond (nat_eq (lockage_at P p).chamber c) listed 0) c cs, none-sum none cs, either (nat_eq (lockage_at P p).chamber c))
    where
      either : (h : Bool) → cond h listed 0 ≡ 0
      either true = none
      either false = refl

  -- Only lockages of the plan begin.
  pub begins-known : 1 ≤ begins (day_of I P) p → p < length P.lockages
  begins-known some =
      elim (leb_tells (suc p) (length P.lockages)) [
        | inl within ↦ omega (arith, within.1)
        | inr past ↦ absurd (omega (
          arith,
          some,
          begins-day,
          none-sum (times_in-above 0 (length P.lockages) p (omega (
            arith,
            past.1,
          ))) (numbers_from 0 (length I.chambers)),
        ))
      ]
