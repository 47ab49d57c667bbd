-- The day that is played of a legal plan goes on from the day of what has begun in it, at any minute.
use Rattle.std.proofs.Common.{◌≡◌, ℕ, ◌+◌, ◌<◌, ◌≤◌, List, [], ◌∷◌, ◌++◌, length, map, filter, find, not, cond, Bool, true, false, nat_eq, nat_lt, All, Some, None, inl, inr, refl, sym, ap, ◌∙◌, subst, arith}
use Rattle.std.specs.Prelude.{◌&&◌, if◌then◌else◌}
use Rattle.std.proofs.lemmas.Bool.{lt-ltb, le-ltb}
use Rattle.std.proofs.lemmas.Bool.Decides.{leb_tells}
use Rattle.std.proofs.lemmas.List.{append_assoc, append-nil, map-append}
use Rattle.std.proofs.lemmas.List.Elements.{All-head, All-tail, filter-append}
use Rattle.lock_model.specs.Fleet.{chamber_at}
use Rattle.lock_model.specs.declared.chamber.Chamber.{Chamber}
use Rattle.lock_model.specs.declared.instance.Instance.{Instance}
use Rattle.lock_model.specs.declared.plan.Lockage.{Lockage}
use Rattle.lock_model.specs.declared.plan.Plan.{Plan}
use Rattle.lock_model.specs.declared.way.Stand.{Stand}
use Rattle.lock_model.specs.declared.way.Stand.TheVariants.{Low, High}
use Rattle.lock_model.specs.declared.way.Way.{Way}
use Rattle.lock_model.specs.declared.way.Way.TheVariants.{Up, Down}
use Rattle.lock_rules.specs.Lawful.{AreLawfulFrom, duration_of, stand_after}
use Rattle.lock_rules.specs.Lines.{sorted_by_start, lockage_at, group_of, line_of}
use Rattle.lock_rules.specs.Plan.{IsLegal}
use Rattle.lock_rules.specs.Timetable.{first_free}
use Rattle.lock_rules.proofs.LineLemmas.{All-line, line-chamber}
use Rattle.chamber_times.specs.FirstBreak.{stand_after_all, done_after_all}
use Rattle.chamber_times.specs.Walk.{lockages_at, line_places}
use Rattle.chamber_times.proofs.WalkLemmas.{lockages_at-line}
use Rattle.list_laws.specs.Among.{IsAmong}
use Rattle.day_play.specs.GoingOn.{unnumbered, GoesOn}
use Rattle.day_play.specs.Order.{minute_of, IsOrdered}
use Rattle.day_play.specs.Playing.{moor_order, moor_beats, turn_beat, turn_beats, go_beat, done_beat, lockage_beats, line_beats, chamber_beats, day_of}
use Rattle.day_play.specs.declared.beat.Act.TheVariants.{Turn}
use Rattle.day_play.proofs.CourseLemmas.{line-order}
use Rattle.day_play.proofs.DayLemmas.{chamber-own, moors-ordered, rises}
use Rattle.day_play.proofs.MixLemmas.{own-once, others-after}
use Rattle.day_play.proofs.PlaceLemmas.{line_places-from}
use Rattle.day_play.proofs.TrackLemmas.{is_early, early, late-all, before-early, early-at}
use Rattle.replan.specs.Begun.{next_place, needs_turn, turn_minute, turn_for, begun_turn}
use Rattle.replan.specs.GoingOn.{turn_beats_for, begun_beats, day_begun}
use Rattle.replan.specs.Kept.{starts_before, kept_of, CanBeKept}
use Rattle.replan.specs.Rest.{chamber_after}
use Rattle.replan.specs.Together.{Keeps}
use Rattle.replan.proofs.AheadLemmas.{first_places, other_places, all-places, first-lockages, other-lockages, other-among, line-same, unnumbered-early}
use Rattle.replan.proofs.BackLemmas.{split-sorted, split-before, filter-swap, late-half, lawful-behind}
use Rattle.replan.proofs.BegunLemmas.{begun-own, begun-rises}
use Rattle.replan.proofs.JoinLemmas.{kept-early}

-- a line in two parts is played as the two
line-append : (I : Instance) (P : Plan) (stand : Stand) (from : ℕ) (ps qs : List ℕ) (c : ℕ) → All (λ l. l.chamber ≡ c) (lockages_at P ps)
    → line_beats I P stand from (ps ++ qs) ≡ line_beats I P stand from ps ++ line_beats I P (stand_after_all stand (lockages_at P ps)) (done_after_all I c from (lockages_at P ps)) qs
line-append I P stand from [] qs c own = refl
line-append I P stand from (p ∷ ps) qs c own =
    let l = lockage_at P p in
    let here : l.chamber ≡ c = All-head (λ (l : Lockage). l.chamber ≡ c) l (lockages_at P ps) own in
    ap (λ xs. lockage_beats I p l stand from ++ xs)
    (line-append I P (stand_after l.way) (l.start + duration_of I l.chamber l.ships) ps qs c (All-tail (λ (l : Lockage). l.chamber ≡ c) l (lockages_at P ps) own)
    ∙ ap (λ d. line_beats I P (stand_after l.way) (l.start + duration_of I l.chamber l.ships) ps ++ line_beats I P (stand_after_all (stand_after l.way) (lockages_at P ps)) (done_after_all I c (l.start + duration_of I d l.ships) (lockages_at P ps)) qs) here)
    ∙ sym (append_assoc (lockage_beats I p l stand from) (line_beats I P (stand_after l.way) (l.start + duration_of I l.chamber l.ships) ps)
    (line_beats I P (stand_after_all (stand_after l.way) (lockages_at P ps)) (done_after_all I c (l.start + duration_of I c l.ships) (lockages_at P ps)) qs))

-- the first that hasn't begun
find-early : (P : Plan) (M : ℕ) (ps qs : List ℕ) → All (λ l. l.start < M) (lockages_at P ps)
    → find (λ p. not (starts_before M (lockage_at P p))) (ps ++ qs) ≡ find (λ p. not (starts_before M (lockage_at P p))) qs
find-early P M [] qs soon = refl
find-early P M (p ∷ ps) qs soon =
    let rest = find (λ p. not (starts_before M (lockage_at P p))) (ps ++ qs) in
    ap (λ b. if not b then Some p else rest) (lt-ltb (lockage_at P p).start M (All-head (λ (l : Lockage). l.start < M) (lockage_at P p) (lockages_at P ps) soon))
    ∙ find-early P M ps qs (All-tail (λ (l : Lockage). l.start < M) (lockage_at P p) (lockages_at P ps) soon)

-- the turn that is played for the next lockage has begun exactly where it is before the minute
turn-played : (I : Instance) (P : Plan) (M c q : ℕ) (k : Chamber) (l : Lockage) → (lockage_at P q) ≡ l → l.chamber ≡ c → k.closures ≡ (chamber_at I c).closures → k.turn ≡ (chamber_at I c).turn
    → map unnumbered (early M (turn_beats I q l k.opens k.stands l.way)) ≡ map unnumbered (early M (turn_beats_for c (turn_minute k) (turn_for P M k (Some q))))
turn-played I P M c q k l is own closures turn =
    by k.stands l.way
    ∙ ap (λ (l : Lockage). map unnumbered (early M (turn_beats_for c (turn_minute k) (if needs_turn k.stands l.way && nat_lt (turn_minute k) M then Some q else None)))) (sym is)
  where
    t : ℕ
    t = turn_minute k

    minute : first_free (chamber_at I l.chamber).closures (chamber_at I l.chamber).turn k.opens ≡ t
    minute = ap (λ d. first_free (chamber_at I d).closures (chamber_at I d).turn k.opens) own ∙ sym (λ i. first_free (closures i) (turn i) k.opens)

    kept : (soon : Bool) → nat_lt t M ≡ soon → map unnumbered (early M (record { minute = t; chamber = c; lockage = q; act = Turn } ∷ [])) ≡ map unnumbered (early M (turn_beats_for c t (if soon then Some q else None)))
    kept true e = refl
    kept false e = ap (λ b. map unnumbered (cond b (record { minute = t; chamber = c; lockage = q; act = Turn } ∷ []) [])) e

    needed : map unnumbered (early M (turn_beat I q l k.opens ∷ [])) ≡ map unnumbered (early M (turn_beats_for c t (if nat_lt t M then Some q else None)))
    needed = (λ i. map unnumbered (early M (record { minute = minute i; chamber = own i; lockage = q; act = Turn } ∷ []))) ∙ kept (nat_lt t M) refl

    by : (stand : Stand) (way : Way) → map unnumbered (early M (turn_beats I q l k.opens stand way)) ≡ map unnumbered (early M (turn_beats_for c t (if needs_turn stand way && nat_lt t M then Some q else None)))
    by Low Up = refl
    by Low Down = needed
    by High Up = needed
    by High Down = refl

module _ (I : Instance) (P : Plan) (M : ℕ) (legal : IsLegal I P) (can : CanBeKept I (kept_of P M)) where
  abbrev K : Plan
  K = kept_of P M

  -- what hasn't begun
  abbrev waiting : ℕ → List Lockage
  waiting c = sorted_by_start (filter (λ l. not (starts_before M l)) (filter (λ l. nat_eq l.chamber c) P.lockages))

  pub keeps-own : Keeps K M P
  keeps-own = record {
    lines = λ c. split-before M (filter (λ l. nat_eq l.chamber c) P.lockages) ∙ ap sorted_by_start (filter-swap (starts_before M) (λ l. nat_eq l.chamber c) P.lockages);
  }

  line : (c : ℕ) → line_of P c ≡ line_of K c ++ waiting c
  line c =
      let ls = filter (λ l. nat_eq l.chamber c) P.lockages in
      split-sorted M ls ∙ ap (λ xs. xs ++ waiting c) (ap sorted_by_start (filter-swap (starts_before M) (λ l. nat_eq l.chamber c) P.lockages))

  module _ (c : ℕ) (known : c < length I.chambers) where
    abbrev k : Chamber
    k = chamber_after I K c

    abbrev firsts : List ℕ
    firsts = first_places P c (line_of K c) (waiting c) (line c)

    abbrev nexts : List ℕ
    nexts = other_places P c (line_of K c) (waiting c) (line c)

    firsts-are : lockages_at P firsts ≡ line_of K c
    firsts-are = first-lockages P c (line_of K c) (waiting c) (line c)

    nexts-are : lockages_at P nexts ≡ waiting c
    nexts-are = other-lockages P c (line_of K c) (waiting c) (line c)

    firsts-early : All (λ l. l.start < M) (lockages_at P firsts)
    firsts-early = subst (All (λ (l : Lockage). l.start < M)) (sym firsts-are) (All-line (λ l. l.start < M) K c (kept-early P M))

    nexts-late : All (λ l. M ≤ l.start) (lockages_at P nexts)
    nexts-late = subst (All (λ (l : Lockage). M ≤ l.start)) (sym nexts-are) (late-half M (filter (λ l. nat_eq l.chamber c) P.lockages))

    nexts-lawful : AreLawfulFrom I c k.stands k.opens (map group_of (lockages_at P nexts)) (map (λ l. l.start) (lockages_at P nexts))
    nexts-lawful =
        subst (λ ls. AreLawfulFrom I c k.stands k.opens (map group_of ls) (map (λ l. l.start) ls)) (sym nexts-are)
        (lawful-behind I c (chamber_at I c).stands (chamber_at I c).opens (line_of K c) (waiting c)
        (subst (λ ls. AreLawfulFrom I c (chamber_at I c).stands (chamber_at I c).opens (map group_of ls) (map (λ l. l.start) ls)) (line c) (legal.timely c known).lawful))

    -- the beats of the lockages that haven't begun, before the minute: the begun turn alone
    next-before : (ps : List ℕ) → ((q : ℕ) → IsAmong ps q → (lockage_at P q).chamber ≡ c) → All (λ l. M ≤ l.start) (lockages_at P ps)
        → AreLawfulFrom I c k.stands k.opens (map group_of (lockages_at P ps)) (map (λ l. l.start) (lockages_at P ps))
        → map unnumbered (early M (line_beats I P k.stands k.opens ps)) ≡ map unnumbered (early M (turn_beats_for c (turn_minute k) (turn_for P M k (find (λ p. not (starts_before M (lockage_at P p))) ps))))
    next-before [] own soon lawful = refl
    next-before (q ∷ ps) own soon lawful =
        let l = lockage_at P q in
        let here : l.chamber ≡ c = own q (inl refl) in
        let start : M ≤ l.start = All-head (λ (l : Lockage). M ≤ l.start) l (lockages_at P ps) soon in
        let rest = line_beats I P (stand_after l.way) (l.start + duration_of I l.chamber l.ships) ps in
        let ts = turn_beats I q l k.opens k.stands l.way in
        let ms = moor_beats q l (moor_order I l) in
        let ends = go_beat q l ∷ done_beat I q l ∷ [] in
        let tail = ms ++ (ends ++ rest) in
        let all : ((ts ++ (ms ++ ends)) ++ rest) ≡ ts ++ tail = append_assoc ts (ms ++ ends) rest ∙ ap (λ xs. ts ++ xs) (append_assoc ms ends rest) in
        let order : IsOrdered minute_of (l.start + duration_of I l.chamber l.ships) rest =
        subst (λ d. IsOrdered minute_of (l.start + duration_of I d l.ships) (line_beats I P (stand_after l.way) (l.start + duration_of I d l.ships) ps)) (sym here)
        (subst (IsOrdered minute_of (l.start + duration_of I c l.ships)) (append-nil (line_beats I P (stand_after l.way) (l.start + duration_of I c l.ships) ps))
        (line-order I P c (stand_after l.way) (l.start + duration_of I c l.ships) ps [] (λ r among. own r (inr among)) lawful.1 tt)) in
        let none : early M tail ≡ [] = (late-all M l.start tail start (moors-ordered I q l (moor_order I l) (ends ++ rest) (omega arith, (omega arith, order)))).0 in
        let found : find (λ p. not (starts_before M (lockage_at P p))) (q ∷ ps) ≡ Some q =
        ap (λ b. if not b then Some q else find (λ p. not (starts_before M (lockage_at P p))) ps) (le-ltb l.start M start) in
        ap (λ xs. map unnumbered (early M xs)) all
        ∙ ap (map unnumbered) (filter-append (is_early M) ts tail ∙ ap (λ xs. early M ts ++ xs) none ∙ append-nil (early M ts))
        ∙ turn-played I P M c q k l refl here refl refl
        ∙ sym (ap (λ o. map unnumbered (early M (turn_beats_for c (turn_minute k) (turn_for P M k o)))) found)

    next-found : next_place P M c ≡ find (λ p. not (starts_before M (lockage_at P p))) nexts
    next-found = ap (find (λ p. not (starts_before M (lockage_at P p)))) (sym (all-places P c (line_of K c) (waiting c) (line c))) ∙ find-early P M firsts nexts firsts-early

    next-own : (q : ℕ) → IsAmong nexts q → (lockage_at P q).chamber ≡ c
    next-own q h = (line_places-from P c q (other-among P c (line_of K c) (waiting c) (line c) q h)).1

    two-parts : chamber_beats I P c ≡ line_beats I P (chamber_at I c).stands (chamber_at I c).opens firsts ++ line_beats I P k.stands k.opens nexts
    two-parts =
        let st = (chamber_at I c).stands in
        let op = (chamber_at I c).opens in
        ap (line_beats I P st op) (sym (all-places P c (line_of K c) (waiting c) (line c)))
        ∙ line-append I P st op firsts nexts c (subst (All (λ (l : Lockage). l.chamber ≡ c)) (sym firsts-are) (line-chamber K c))
        ∙ ap (λ ls. line_beats I P st op firsts ++ line_beats I P (stand_after_all st ls) (done_after_all I c op ls) nexts) firsts-are

    played-before : map unnumbered (early M (chamber_beats I P c)) ≡ map unnumbered (early M (begun_beats I P M c))
    played-before =
        let st = (chamber_at I c).stands in
        let op = (chamber_at I c).opens in
        let A = line_beats I P st op firsts in
        let B = line_beats I P k.stands k.opens nexts in
        let A2 = chamber_beats I K c in
        let T = turn_beats_for c (turn_minute k) (begun_turn I P M c) in
        let first : map unnumbered (early M A) ≡ map unnumbered (early M A2) =
        unnumbered-early M A ∙ ap (early M) (line-same I P K st op firsts (line_places K c) (firsts-are ∙ sym (lockages_at-line K c))) ∙ sym (unnumbered-early M A2) in
        let second : map unnumbered (early M B) ≡ map unnumbered (early M T) =
        next-before nexts next-own nexts-late nexts-lawful ∙ ap (λ o. map unnumbered (early M (turn_beats_for c (turn_minute k) (turn_for P M k o)))) (sym next-found) in
        ap (λ xs. map unnumbered (early M xs)) two-parts
        ∙ ap (map unnumbered) (filter-append (is_early M) A B)
        ∙ map-append unnumbered (early M A) (early M B)
        ∙ (λ i. first i ++ second i)
        ∙ sym (map-append unnumbered (early M A2) (early M T))
        ∙ sym (ap (map unnumbered) (filter-append (is_early M) A2 T))

  -- THE PLAYED DAY goes on from the day of what has begun.
  pub played-goes_on : GoesOn M (day_begun I P M) (day_of I P)
  played-goes_on = record {
    before = λ c.
        before-early M c (day_of I P)
        ∙ ap (map unnumbered) (early-at M c (day_of I P))
        ∙ elim (leb_tells (length I.chambers) c) [
          | inl past ↦
              ap (λ bs. map unnumbered (early M bs))
              (others-after c (chamber_beats I P) (length I.chambers) (chamber-own I P) (rises I P legal c) 0 (length I.chambers) [] (inr (omega (arith, past.1)))
              ∙ sym (others-after c (begun_beats I P M) (length I.chambers) (begun-own I P M) (begun-rises I P M c can) 0 (length I.chambers) [] (inr (omega (arith, past.1)))))
          | inr here ↦
              ap (λ bs. map unnumbered (early M bs)) (own-once c (chamber_beats I P) (length I.chambers) (chamber-own I P) (rises I P legal c) 0 (length I.chambers) [] tt refl (omega arith) (omega (arith, here.1)) here.1)
              ∙ played-before c here.1
              ∙ sym (ap (λ bs. map unnumbered (early M bs)) (own-once c (begun_beats I P M) (length I.chambers) (begun-own I P M) (begun-rises I P M c can) 0 (length I.chambers) [] tt refl (omega arith) (omega (arith, here.1)) here.1))
        ]
        ∙ sym (ap (map unnumbered) (early-at M c (day_begun I P M)))
        ∙ sym (before-early M c (day_begun I P M));
  }
