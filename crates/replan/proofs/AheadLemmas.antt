-- A plan of the rest as lived, put together with the begun lockages, has a lawful course that goes on from the day of what has begun.
use Rattle.std.proofs.Common.{◌≡◌, ℕ, ◌+◌, ◌<◌, List, [], ◌∷◌, ◌++◌, length, map, take, drop, max, cond, true, false, nat_lt, get_or, All, Option, Some, None, ◌⊎◌, inl, inr, refl, sym, ap, ◌∙◌, subst, arith, sum_by}
use Rattle.std.proofs.Math.Seq.{take-append_seam, drop-append_seam}
use Rattle.std.proofs.lemmas.Bool.Decides.{leb_tells}
use Rattle.std.proofs.lemmas.List.{append-nil, map-append, take-map, drop-map, take-append-drop}
use Rattle.std.proofs.lemmas.List.Elements.{filter-append}
use Rattle.std.proofs.lemmas.List.Sums.{sum_by-append}
use Rattle.lock_model.specs.Fleet.{chamber_at}
use Rattle.lock_model.specs.declared.chamber.Chamber.{Chamber}
use Rattle.lock_model.specs.declared.way.Stand.{Stand}
use Rattle.lock_model.specs.declared.way.Stand.TheVariants.{Low, High}
use Rattle.lock_model.specs.declared.way.Way.{Way}
use Rattle.lock_model.specs.declared.way.Way.TheVariants.{Up, Down}
use Rattle.lock_model.specs.declared.instance.Instance.{Instance}
use Rattle.lock_model.specs.declared.plan.Lockage.{Lockage}
use Rattle.lock_model.specs.declared.plan.Plan.{Plan}
use Rattle.lock_rules.specs.Arrival.{numbers_from}
use Rattle.lock_rules.specs.Lawful.{AreLawfulFrom, duration_of, stand_after}
use Rattle.lock_rules.specs.Lines.{no_lockage, lockage_at, group_of, line_of, groups_of}
use Rattle.lock_rules.specs.Plan.{IsLegal, cost_of}
use Rattle.lock_rules.proofs.AmongLemmas.{among-append}
use Rattle.lock_rules.proofs.BoundLemmas.{IsAmong-numbers}
use Rattle.lock_rules.proofs.FreeLemmas.{first_free-from, first_free-free}
use Rattle.lock_rules.proofs.LineLemmas.{All-line}
use Rattle.lock_rules.proofs.TimetableLemmas.{closures_kept}
use Rattle.lock_rules.proofs.TreeLemmas.{IsAmong-left, IsAmong-right}
use Rattle.chamber_times.specs.FirstBreak.{stand_after_all, done_after_all}
use Rattle.chamber_times.specs.Walk.{lockages_at, line_places}
use Rattle.chamber_times.proofs.WalkLemmas.{lockages_at-line}
use Rattle.list_laws.specs.Among.{IsAmong}
use Rattle.day_play.specs.GoingOn.{unnumbered, GoesOn}
use Rattle.day_play.specs.Order.{minute_of, IsOrdered}
use Rattle.day_play.specs.Playing.{moor_order, moor_beat, moor_beats, turn_beats, go_beat, done_beat, lockage_beats, line_beats, chamber_beats, beats_by, beats_of, mixed}
use Rattle.day_play.specs.State.{opening, opening_chamber}
use Rattle.day_play.specs.Lawful.{IsLawfulCourse}
use Rattle.day_play.specs.declared.beat.Beat.{Beat}
use Rattle.day_play.proofs.ChamberLemmas.{IsGood, line-run}
use Rattle.day_play.proofs.CourseLemmas.{still_chamber, runs-sooner, line-then, line-order}
use Rattle.day_play.proofs.DayLemmas.{line-own, line-done, beats-among, served_in-some}
use Rattle.day_play.proofs.MixLemmas.{own-once, others-after}
use Rattle.day_play.proofs.OrderLemmas.{ordered-lower, put_each-ordered, put_each-among}
use Rattle.day_play.proofs.PlaceLemmas.{line_places-from, line_places-among, moors_in-append, moors_in-put_each, times, line-moors, moors-few}
use Rattle.day_play.proofs.RunLemmas.{beats_at, moors_in, RunsHere, IsFresh, idle_not_under, runs-lawful, runs-still, done-gone, done-served}
use Rattle.day_play.proofs.TrackLemmas.{is_early, early, late-all, before-early, early-at}
use Rattle.replan.specs.Begun.{turn_minute, turned_where, begun_turn, chamber_begun}
use Rattle.replan.specs.GoingOn.{turn_beats_for, begun_beats, day_begun, CanGoOn, IsGoneOn}
use Rattle.replan.specs.Kept.{kept_of}
use Rattle.replan.specs.Lived.{opened_from, IsLivedRest, CanBeLived}
use Rattle.replan.specs.Rest.{chamber_after, ships_left, added_of, IsRest}
use Rattle.replan.specs.Together.{renumbered, joined, Keeps}
use Rattle.replan.proofs.AlikeLemmas.{lawful-alike}
use Rattle.replan.proofs.BegunLemmas.{turn-own, begun-own, begun-rises}
use Rattle.replan.proofs.CostLemmas.{cost-joined}
use Rattle.replan.proofs.JoinLemmas.{line-joined, lawful-rest, joined-ships, joined-late, legal-joined, keeps-joined, kept-early}
use Rattle.replan.proofs.LivedLemmas.{lived-count, chamber-lived, known_rest, is-known_rest, known-ships, known-count, lived-known, known-legal, known-cost}

-- ---- the same lockages have the same beats, but for their numbers

module _ (I : Instance) (p q : ℕ) (l : Lockage) where
  turns-same : (from : ℕ) (stand : Stand) (way : Way) → map unnumbered (turn_beats I p l from stand way) ≡ map unnumbered (turn_beats I q l from stand way)
  turns-same from Low Up = refl
  turns-same from Low Down = refl
  turns-same from High Up = refl
  turns-same from High Down = refl

  moors-same : (ks : List ℕ) → map unnumbered (moor_beats p l ks) ≡ map unnumbered (moor_beats q l ks)
  moors-same [] = refl
  moors-same (k ∷ ks) = ap (λ xs. unnumbered (moor_beat p l k) ∷ xs) (moors-same ks)

  lockage-same : (stand : Stand) (from : ℕ) → map unnumbered (lockage_beats I p l stand from) ≡ map unnumbered (lockage_beats I q l stand from)
  lockage-same stand from =
      let ends = λ (p : ℕ). go_beat p l ∷ done_beat I p l ∷ [] in
      map-append unnumbered (turn_beats I p l from stand l.way) (moor_beats p l (moor_order I l) ++ ends p)
      ∙ (λ i. turns-same from stand l.way i ++ (map-append unnumbered (moor_beats p l (moor_order I l)) (ends p) i))
      ∙ ap (λ xs. map unnumbered (turn_beats I q l from stand l.way) ++ (xs ++ map unnumbered (ends p))) (moors-same (moor_order I l))
      ∙ sym (map-append unnumbered (turn_beats I q l from stand l.way) (moor_beats q l (moor_order I l) ++ ends q)
      ∙ ap (λ xs. map unnumbered (turn_beats I q l from stand l.way) ++ xs) (map-append unnumbered (moor_beats q l (moor_order I l)) (ends q)))

pub line-same : (I : Instance) (W K : Plan) (stand : Stand) (from : ℕ) (ps qs : List ℕ) → lockages_at W ps ≡ lockages_at K qs → map unnumbered (line_beats I W stand from ps) ≡ map unnumbered (line_beats I K stand from qs)
line-same I W K stand from [] [] e = refl
line-same I W K stand from [] (q ∷ qs) e = cc
line-same I W K stand from (p ∷ ps) [] e = cc
line-same I W K stand from (p ∷ ps) (q ∷ qs) e =
    let here : lockage_at W p ≡ lockage_at K q = ap (λ xs. get_or xs 0 no_lockage) e in
    let l = lockage_at K q in
    map-append unnumbered (lockage_beats I p (lockage_at W p) stand from) (line_beats I W (stand_after (lockage_at W p).way) ((lockage_at W p).start + duration_of I (lockage_at W p).chamber (lockage_at W p).ships) ps)
    ∙ ap (λ (l : Lockage). map unnumbered (lockage_beats I p l stand from) ++ map unnumbered (line_beats I W (stand_after l.way) (l.start + duration_of I l.chamber l.ships) ps)) here
    ∙ (λ i. lockage-same I p q l stand from i ++ line-same I W K (stand_after l.way) (l.start + duration_of I l.chamber l.ships) ps qs (ap (drop 1) e) i)
    ∙ sym (map-append unnumbered (lockage_beats I q l stand from) (line_beats I K (stand_after l.way) (l.start + duration_of I l.chamber l.ships) qs))

pub unnumbered-early : (M : ℕ) (bs : List Beat) → map unnumbered (early M bs) ≡ early M (map unnumbered bs)
unnumbered-early M [] = refl
unnumbered-early M (b ∷ bs) =
    elim (nat_lt b.minute M) as (λ t. map unnumbered (cond t (b ∷ early M bs) (early M bs)) ≡ cond t (unnumbered b ∷ early M (map unnumbered bs)) (early M (map unnumbered bs))) [
      | true ↦ ap (λ xs. unnumbered b ∷ xs) (unnumbered-early M bs)
      | false ↦ unnumbered-early M bs
    ]

-- ---- a line in two parts

module _ (W : Plan) (c : ℕ) (A B : List Lockage) (line : line_of W c ≡ A ++ B) where
  abbrev pub first_places : List ℕ
  first_places = take (length A) (line_places W c)

  abbrev pub other_places : List ℕ
  other_places = drop (length A) (line_places W c)

  pub all-places : first_places ++ other_places ≡ line_places W c
  all-places = take-append-drop (length A) (line_places W c)

  pub first-lockages : lockages_at W first_places ≡ A
  first-lockages = sym (take-map (lockage_at W) (length A) (line_places W c)) ∙ ap (take (length A)) (lockages_at-line W c ∙ line) ∙ take-append_seam A B

  pub other-lockages : lockages_at W other_places ≡ B
  other-lockages = sym (drop-map (lockage_at W) (length A) (line_places W c)) ∙ ap (drop (length A)) (lockages_at-line W c ∙ line) ∙ drop-append_seam A B

  first-among : (q : ℕ) → IsAmong first_places q → IsAmong (line_places W c) q
  first-among q h = subst (λ ps. IsAmong ps q) all-places (IsAmong-left first_places other_places q h)

  pub other-among : (q : ℕ) → IsAmong other_places q → IsAmong (line_places W c) q
  other-among q h = subst (λ ps. IsAmong ps q) all-places (IsAmong-right first_places other_places q h)

  among-parts : (q : ℕ) → IsAmong (line_places W c) q → IsAmong first_places q ⊎ IsAmong other_places q
  among-parts q h = among-append first_places other_places q (subst (λ ps. IsAmong ps q) (sym all-places) h)

module _ (I : Instance) (P : Plan) (M : ℕ) (can : CanBeLived I P M) (W : Plan) (whole : IsLegal I W) (others : ℕ → List Lockage)
    (line : (c : ℕ) → line_of W c ≡ line_of (kept_of P M) c ++ others c)
    (lawful : (c : ℕ) → c < length I.chambers
    → AreLawfulFrom I c (opened_from M (chamber_begun I P M c)).stands (opened_from M (chamber_begun I P M c)).opens (map group_of (others c)) (map (λ l. l.start) (others c))) where
  abbrev K : Plan
  K = kept_of P M

  abbrev firsts : ℕ → List ℕ
  firsts c = first_places W c (line_of K c) (others c) (line c)

  abbrev nexts : ℕ → List ℕ
  nexts c = other_places W c (line_of K c) (others c) (line c)

  -- the chamber as lived
  abbrev lived : ℕ → Chamber
  lived c = opened_from M (chamber_begun I P M c)

  abbrev first_beats : ℕ → List Beat
  first_beats c = line_beats I W (chamber_at I c).stands (chamber_at I c).opens (firsts c)

  abbrev turn_of : ℕ → List Beat
  turn_of c = turn_beats_for c (turn_minute (chamber_after I K c)) (begun_turn I P M c)

  abbrev next_beats : ℕ → List Beat
  next_beats c = line_beats I W (lived c).stands (lived c).opens (nexts c)

  abbrev lived_beats : ℕ → List Beat
  lived_beats c = first_beats c ++ (turn_of c ++ next_beats c)

  good : (c q : ℕ) → IsAmong (line_places W c) q → IsGood I W c q
  good c q among =
      let at = line_places-from W c q among in
      record { known = at.0; legal = whole.lockage q no_lockage at.0; own = at.1 }

  first-good : (c q : ℕ) → IsAmong (firsts c) q → IsGood I W c q
  first-good c q h = good c q (first-among W c (line_of K c) (others c) (line c) q h)

  next-good : (c q : ℕ) → IsAmong (nexts c) q → IsGood I W c q
  next-good c q h = good c q (other-among W c (line_of K c) (others c) (line c) q h)

  lived-own : (c : ℕ) (x : Beat) → IsAmong (lived_beats c) x → x.chamber ≡ c
  lived-own c x h = elim (among-append (first_beats c) (turn_of c ++ next_beats c) x h) [
    | inl first ↦ line-own I W c (chamber_at I c).stands (chamber_at I c).opens (firsts c) (λ q among. (first-good c q among).own) x first
    | inr later ↦ elim (among-append (turn_of c) (next_beats c) x later) [
      | inl turn ↦ turn-own c (turn_minute (chamber_after I K c)) (begun_turn I P M c) x turn
      | inr next ↦ line-own I W c (lived c).stands (lived c).opens (nexts c) (λ q among. (next-good c q among).own) x next
    ]
  ]

  module _ (c : ℕ) (here : c < length I.chambers) where
    abbrev k : Chamber
    k = chamber_after I K c

    first-lawful : AreLawfulFrom I c (chamber_at I c).stands (chamber_at I c).opens (map group_of (lockages_at W (firsts c))) (map (λ l. l.start) (lockages_at W (firsts c)))
    first-lawful =
        subst (λ ls. AreLawfulFrom I c (chamber_at I c).stands (chamber_at I c).opens (map group_of ls) (map (λ l. l.start) ls)) (sym (first-lockages W c (line_of K c) (others c) (line c))) (can.kept.legal.timely c here).lawful

    next-lawful : AreLawfulFrom I c (lived c).stands (lived c).opens (map group_of (lockages_at W (nexts c))) (map (λ l. l.start) (lockages_at W (nexts c)))
    next-lawful = subst (λ ls. AreLawfulFrom I c (lived c).stands (lived c).opens (map group_of ls) (map (λ l. l.start) ls)) (sym (other-lockages W c (line_of K c) (others c) (line c))) (lawful c here)

    -- the begun turn, where there is one
    turn-run : (o : Option ℕ) (bs : List Beat) → RunsHere I W (still_chamber (opened_from M (turned_where o k)).stands (opened_from M (turned_where o k)).opens) bs
        → RunsHere I W (still_chamber k.stands k.opens) (turn_beats_for c (turn_minute k) o ++ bs)
    turn-run None bs runs = runs-sooner I W k.opens bs (still_chamber k.stands (max k.opens M)) refl (omega arith) runs
    turn-run (Some p) bs runs = (
      record {
        in_lock = here;
        still = record { empty = refl; idle = refl };
        later = first_free-from k.closures k.turn k.opens;
        free = first_free-free 0 k.closures k.turn k.opens (closures_kept I c here);
      },
      runs-sooner I W (turn_minute k + k.turn) bs (still_chamber (opened_from M (turned_where (Some p) k)).stands (max (turn_minute k + k.turn) M)) refl (omega arith) runs,
    )

    turn-order : (o : Option ℕ) (bs : List Beat) → IsOrdered minute_of (opened_from M (turned_where o k)).opens bs → IsOrdered minute_of k.opens (turn_beats_for c (turn_minute k) o ++ bs)
    turn-order None bs order = ordered-lower minute_of (max k.opens M) k.opens bs (omega arith) order
    turn-order (Some p) bs order = (first_free-from k.closures k.turn k.opens, ordered-lower minute_of (max (turn_minute k + k.turn) M) (turn_minute k) bs (omega arith) order)

    next-run : RunsHere I W (still_chamber (lived c).stands (lived c).opens) (next_beats c)
    next-run = line-run I W c (lived c).stands (lived c).opens (nexts c) (next-good c) next-lawful

    next-order : IsOrdered minute_of (lived c).opens (next_beats c)
    next-order =
        subst (IsOrdered minute_of (lived c).opens) (append-nil (next_beats c)) (line-order I W c (lived c).stands (lived c).opens (nexts c) [] (λ q among. (next-good c q among).own) next-lawful tt)

    stands-then : stand_after_all (chamber_at I c).stands (lockages_at W (firsts c)) ≡ k.stands
    stands-then = ap (stand_after_all (chamber_at I c).stands) (first-lockages W c (line_of K c) (others c) (line c))

    done-then : done_after_all I c (chamber_at I c).opens (lockages_at W (firsts c)) ≡ k.opens
    done-then = ap (done_after_all I c (chamber_at I c).opens) (first-lockages W c (line_of K c) (others c) (line c))

    lived-run : RunsHere I W (opening_chamber I c) (lived_beats c)
    lived-run =
        line-then I W c (chamber_at I c).stands (chamber_at I c).opens (firsts c) (turn_of c ++ next_beats c) (first-good c) first-lawful
        (subst (λ s. RunsHere I W s (turn_of c ++ next_beats c)) (sym (λ i. still_chamber (stands-then i) (done-then i))) (turn-run (begun_turn I P M c) (next_beats c) next-run))

    lived-rises : IsOrdered minute_of 0 (lived_beats c)
    lived-rises =
        ordered-lower minute_of (chamber_at I c).opens 0 (lived_beats c) (omega arith)
        (line-order I W c (chamber_at I c).stands (chamber_at I c).opens (firsts c) (turn_of c ++ next_beats c) (λ q among. (first-good c q among).own) first-lawful
        (subst (λ n. IsOrdered minute_of n (turn_of c ++ next_beats c)) (sym done-then) (turn-order (begun_turn I P M c) (next_beats c) next-order)))

    -- before the minute they are those of what has begun
    lived-before : map unnumbered (early M (lived_beats c)) ≡ map unnumbered (early M (begun_beats I P M c))
    lived-before =
        let first = first_beats c in
        let then = chamber_beats I K c in
        let same : map unnumbered (early M first) ≡ map unnumbered (early M then) =
        unnumbered-early M first
        ∙ ap (early M) (line-same I W K (chamber_at I c).stands (chamber_at I c).opens (firsts c) (line_places K c) (first-lockages W c (line_of K c) (others c) (line c) ∙ sym (lockages_at-line K c)))
        ∙ sym (unnumbered-early M then) in
        let none : early M (next_beats c) ≡ [] = (late-all M (lived c).opens (next_beats c) (omega arith) next-order).0 in
        ap (map unnumbered) (filter-append (is_early M) first (turn_of c ++ next_beats c) ∙ ap (λ xs. early M first ++ xs) (filter-append (is_early M) (turn_of c) (next_beats c) ∙ ap (λ xs. early M (turn_of c) ++ xs) none ∙ append-nil (early M (turn_of c))))
        ∙ map-append unnumbered (early M first) (early M (turn_of c))
        ∙ ap (λ xs. xs ++ map unnumbered (early M (turn_of c))) same
        ∙ sym (map-append unnumbered (early M then) (early M (turn_of c)))
        ∙ sym (ap (map unnumbered) (filter-append (is_early M) then (turn_of c)))

  -- ---- the course of all chambers

  abbrev lived_day : List Beat
  lived_day = mixed lived_beats (length I.chambers)

  own-beats : (c : ℕ) → c < length I.chambers → beats_at c lived_day ≡ lived_beats c
  own-beats c here = own-once c lived_beats (length I.chambers) lived-own (lived-rises c) 0 (length I.chambers) [] tt refl (omega arith) (omega (arith, here)) here

  each : (c : ℕ) → RunsHere I W (opening_chamber I c) (beats_at c lived_day)
  each c =
      elim (leb_tells (length I.chambers) c) [
        | inl past ↦
            let nothing = others-after c lived_beats (length I.chambers) lived-own (lived-rises c) 0 (length I.chambers) [] (inr (omega (arith, past.1))) in
            subst (RunsHere I W (opening_chamber I c)) (sym nothing) (record { empty = refl; idle = refl })
        | inr here ↦ subst (RunsHere I W (opening_chamber I c)) (sym (own-beats c here.1)) (lived-run c here.1)
      ]

  turn-moors : (c t : ℕ) (o : Option ℕ) (i : ℕ) → moors_in (turn_beats_for c t o) i ≡ 0
  turn-moors c t None i = refl
  turn-moors c t (Some p) i = refl

  chamber-moors : (c i : ℕ) → moors_in (lived_beats c) i ≡ moors_in (chamber_beats I W c) i
  chamber-moors c i =
      omega (
        arith,
        moors_in-append (first_beats c) (turn_of c ++ next_beats c) i,
        moors_in-append (turn_of c) (next_beats c) i,
        turn-moors c (turn_minute (chamber_after I K c)) (begun_turn I P M c) i,
        line-moors I i W (chamber_at I c).stands (chamber_at I c).opens (firsts c),
        line-moors I i W (lived c).stands (lived c).opens (nexts c),
        line-moors I i W (chamber_at I c).stands (chamber_at I c).opens (line_places W c),
        ap (λ ps. sum_by (times I i) (lockages_at W ps)) (sym (all-places W c (line_of K c) (others c) (line c)))
            ∙ ap (sum_by (times I i)) (map-append (lockage_at W) (firsts c) (nexts c)) ∙ sum_by-append (times I i) (lockages_at W (firsts c)) (lockages_at W (nexts c)),
      )

  all-moors : (cs : List ℕ) (i : ℕ) → moors_in (beats_by lived_beats cs) i ≡ moors_in (beats_of I W cs) i
  all-moors [] i = refl
  all-moors (c ∷ cs) i =
      omega (
        arith,
        moors_in-append (lived_beats c) (beats_by lived_beats cs) i,
        moors_in-append (chamber_beats I W c) (beats_of I W cs) i,
        chamber-moors c i,
        all-moors cs i,
      )

  fresh : IsFresh I W (opening I) (moors_in lived_day)
  fresh = record {
    few = λ i. omega (arith, moors_in-put_each [] (beats_by lived_beats (numbers_from 0 (length I.chambers))) i, all-moors (numbers_from 0 (length I.chambers)) i, moors-few I i W whole);
    served = λ i h. absurd h;
    moored = λ c m h. absurd h;
    going = λ c p e. absurd (idle_not_under p e);
    gone = λ p h. absurd h;
  }

  ended : (q : ℕ) → q < length W.lockages → IsAmong lived_day (done_beat I q (lockage_at W q))
  ended q within =
      let c = (lockage_at W q).chamber in
      let lockage = whole.lockage q no_lockage within in
      let done = done_beat I q (lockage_at W q) in
      let own : IsAmong (lived_beats c) done = elim (among-parts W c (line_of K c) (others c) (line c) q (line_places-among W q within)) [
        | inl first ↦ IsAmong-left (first_beats c) (turn_of c ++ next_beats c) done (line-done I W (chamber_at I c).stands (chamber_at I c).opens (firsts c) q first)
        | inr next ↦ IsAmong-right (first_beats c) (turn_of c ++ next_beats c) done (IsAmong-right (turn_of c) (next_beats c) done (line-done I W (lived c).stands (lived c).opens (nexts c) q next))
      ] in
      put_each-among minute_of [] (beats_by lived_beats (numbers_from 0 (length I.chambers))) done
      (beats-among lived_beats (numbers_from 0 (length I.chambers)) c done (IsAmong-numbers 0 (length I.chambers) c (omega arith) (omega (arith, lockage.chamber))) own)

  course : IsLawfulCourse I W lived_day
  course = record {
    rising = put_each-ordered minute_of [] (beats_by lived_beats (numbers_from 0 (length I.chambers))) tt;
    lawful = runs-lawful I W lived_day (opening I) each fresh;
    over = record {
      served = λ i within.
          let at = served_in-some W.lockages i (omega (arith, whole.once i within)) in
          done-served I W lived_day (opening I) at.0 (lockage_at W at.0) i (ended at.0 at.1) at.2;
      gone = λ q within. done-gone I W lived_day (opening I) q (lockage_at W q) (ended q within);
      still = λ c within. runs-still I W lived_day (opening I) each c;
    };
  }

  goes-on : GoesOn M (day_begun I P M) lived_day
  goes-on = record {
    before = λ c.
        before-early M c lived_day
        ∙ ap (map unnumbered) (early-at M c lived_day)
        ∙ elim (leb_tells (length I.chambers) c) [
          | inl past ↦
              ap (λ bs. map unnumbered (early M bs))
              (others-after c lived_beats (length I.chambers) lived-own (lived-rises c) 0 (length I.chambers) [] (inr (omega (arith, past.1)))
              ∙ sym (others-after c (begun_beats I P M) (length I.chambers) (begun-own I P M) (begun-rises I P M c can.kept) 0 (length I.chambers) [] (inr (omega (arith, past.1)))))
          | inr here ↦
              ap (λ bs. map unnumbered (early M bs)) (own-beats c here.1)
              ∙ lived-before c here.1
              ∙ sym (ap (λ bs. map unnumbered (early M bs)) (own-once c (begun_beats I P M) (length I.chambers) (begun-own I P M) (begun-rises I P M c can.kept) 0 (length I.chambers) [] tt refl (omega arith) (omega (arith, here.1)) here.1))
        ]
        ∙ sym (ap (map unnumbered) (early-at M c (day_begun I P M)))
        ∙ sym (before-early M c (day_begun I P M));
  }

  -- THE PLAN CAN STILL BE CARRIED OUT, if it keeps the begun lockages.
  pub can-go_on : Keeps K M W → CanGoOn I P M W
  can-go_on keeps = record { keeps = keeps; day = lived_day; lawful = course; goes_on = goes-on }

-- ---- a plan of the rest as lived

module _ (I R : Instance) (P : Plan) (M : ℕ) (can : CanBeLived I P M) (left : IsLivedRest I P M R) (Q : Plan) (legal : IsLegal R Q) where
  is_rest : IsRest I (kept_of P M) M (known_rest I R P M can left)
  is_rest = is-known_rest I R P M can left

  known : IsLegal (known_rest I R P M can left) Q
  known = known-legal I R P M can left Q legal

  put-legal : IsLegal I (joined (kept_of P M) (ships_left I (kept_of P M)) Q)
  put-legal = legal-joined I (known_rest I R P M can left) (kept_of P M) M is_rest can.kept.legal (kept-early P M) Q known

  put-keeps : Keeps (kept_of P M) M (joined (kept_of P M) (ships_left I (kept_of P M)) Q)
  put-keeps = keeps-joined I (known_rest I R P M can left) (kept_of P M) M is_rest can.kept.legal (kept-early P M) Q known

  pub whole-cost : cost_of I (joined (kept_of P M) (ships_left I (kept_of P M)) Q) ≡ cost_of R Q + added_of I (kept_of P M) M
  whole-cost = cost-joined I (known_rest I R P M can left) (kept_of P M) M is_rest Q known ∙ ap (λ n. n + added_of I (kept_of P M) M) (sym (known-cost I R P M can left Q legal))

  put-line : (c : ℕ) → line_of (joined (kept_of P M) (ships_left I (kept_of P M)) Q) c ≡ line_of (kept_of P M) c ++ map (renumbered (ships_left I (kept_of P M))) (line_of Q c)
  put-line c = line-joined (kept_of P M) Q M (ships_left I (kept_of P M)) c (kept-early P M) (joined-late I (known_rest I R P M can left) (kept_of P M) M is_rest can.kept.legal (kept-early P M) Q known)

  put-lawful : (c : ℕ) → c < length I.chambers
      → AreLawfulFrom I c (opened_from M (chamber_begun I P M c)).stands (opened_from M (chamber_begun I P M c)).opens (map group_of (map (renumbered (ships_left I (kept_of P M))) (line_of Q c))) (map (λ l. l.start) (map (renumbered (ships_left I (kept_of P M))) (line_of Q c)))
  put-lawful c here =
      let J = known_rest I R P M can left in
      let k = opened_from M (chamber_begun I P M c) in
      let mine : c < length R.chambers = subst (λ n. c < n) (sym (lived-count I R P M can left)) here in
      let there : AreLawfulFrom R c k.stands k.opens (groups_of Q c) (map (λ l. l.start) (line_of Q c)) =
      subst (λ (x : Chamber). AreLawfulFrom R c x.stands x.opens (groups_of Q c) (map (λ l. l.start) (line_of Q c))) (chamber-lived I R P M can left c here) (legal.timely c mine).lawful in
      let like : AreLawfulFrom J c k.stands k.opens (groups_of Q c) (map (λ l. l.start) (line_of Q c)) =
      lawful-alike R J (known-ships I R P M can left) (known-count I R P M can left) (lived-known I R P M can left) c k.stands k.opens (groups_of Q c) (map (λ l. l.start) (line_of Q c)) mine there in
      let ships = joined-ships I J (kept_of P M) M is_rest can.kept.legal (kept-early P M) Q known in
      lawful-rest I J (kept_of P M) M is_rest c k.stands k.opens (line_of Q c) here (All-line (λ l. All (λ s. s < length (ships_left I (kept_of P M))) l.ships) Q c ships) like

  -- THE PLAN THAT IS PUT TOGETHER can still be carried out.
  pub gone-on : IsGoneOn I R P M Q (joined (kept_of P M) (ships_left I (kept_of P M)) Q)
  gone-on = record {
    legal = put-legal;
    can = can-go_on I P M can (joined (kept_of P M) (ships_left I (kept_of P M)) Q) put-legal (λ c. map (renumbered (ships_left I (kept_of P M))) (line_of Q c)) put-line put-lawful put-keeps;
    cost = whole-cost;
  }

-- ---- the begun lockages, where they serve all ships

pub kept-goes_on : (I : Instance) (P : Plan) (M : ℕ) → CanBeLived I P M → IsLegal I (kept_of P M) → Keeps (kept_of P M) M (kept_of P M) → CanGoOn I P M (kept_of P M)
kept-goes_on I P M can legal keeps = can-go_on I P M can (kept_of P M) legal (λ c. []) (λ c. sym (append-nil (line_of (kept_of P M) c))) (λ c here. tt) keeps
