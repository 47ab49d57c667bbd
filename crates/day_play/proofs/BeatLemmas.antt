-- The loops that put beats into a day: what is put so far, and the room for what is left.
use Rattle.std.proofs.Common.{◌≡◌, ℕ, suc, ◌+◌, ◌*◌, ◌<◌, ◌≤◌, List, [], ◌∷◌, ◌++◌, length, drop, get_or, All, sum_by, inl, inr, refl, ap, sym, subst, ◌∙◌, arith, ◌-◌}
use Rattle.std.proofs.lemmas.Bool.Decides.{leb_tells}
use Rattle.std.proofs.lemmas.List.{length-map, length-append}
use Rattle.std.proofs.lemmas.List.Sums.{sum_by-cons, sum_by-append}
use Rattle.std.proofs.lemmas.List.Elements.{All-head, All-tail}
use Rattle.std.proofs.Math.Seq.{drop-cons}
use Rattle.lock_model.specs.declared.instance.Instance.{Instance}
use Rattle.lock_model.specs.declared.plan.Lockage.{Lockage}
use Rattle.lock_model.specs.declared.plan.Plan.{Plan}
use Rattle.lock_model.specs.declared.way.Stand.{Stand}
use Rattle.lock_model.specs.declared.way.Stand.TheVariants.{Low, High}
use Rattle.lock_model.specs.declared.way.Way.{Way}
use Rattle.lock_model.specs.declared.way.Way.TheVariants.{Up, Down}
use Rattle.lock_model.specs.Fleet.{chamber_at}
use Rattle.lock_rules.specs.Arrival.{numbers_from}
use Rattle.lock_rules.specs.Lawful.{duration_of, stand_after}
use Rattle.lock_rules.specs.Lines.{lockage_at, line_of}
use Rattle.lock_rules.specs.Plan.{IsLegal, times_in}
use Rattle.lock_rules.proofs.LineLemmas.{length-numbers, sum_by-lines, All-line}
use Rattle.lock_rules.proofs.CountLemmas.{sum_by-counts, ships_in, times_in-ships_in, served_in-outside, times_in-between, times_in-above}
use Rattle.lock_rules.proofs.LegalLemmas.{legal-chambers, legal-ships}
use Rattle.chamber_times.specs.Walk.{lockages_at, line_places}
use Rattle.chamber_times.proofs.WalkLemmas.{lockages_at-line}
use Rattle.day_play.specs.Order.{put_by, put_each, minute_of}
use Rattle.day_play.specs.Playing.{moor_beat, moor_beats, moor_order, turn_beats, go_beat, done_beat, lockage_beats, line_beats, chamber_beats, beats_of}
use Rattle.day_play.specs.ComingIn.{by_depth}
use Rattle.day_play.specs.declared.beat.Beat.{Beat}
use Rattle.day_play.proofs.OrderLemmas.{length-put_each, put_each-append}
use Rattle.day_play.proofs.InTurnLemmas.{length-in_turn}
use Rattle.day_play.specs.declared.day.TheConstants.{BEATS}

pub drop_next : (xs : List ℕ) (i : ℕ) → i < length xs → drop i xs ≡ get_or xs i 0 ∷ drop (i + 1) xs
drop_next xs i within = let next : suc i ≡ i + 1 = omega arith in drop-cons xs i 0 within ∙ ap (λ n. get_or xs i 0 ∷ drop n xs) next

-- some beats are put, and others are left
module _ (D new first rest all : List Beat) (put : new ≡ put_each minute_of D first) (whole : all ≡ first ++ rest) where
  pub put-rest : (R : List Beat) → put_each minute_of D all ≡ R → put_each minute_of new rest ≡ R
  put-rest R before = ap (λ d. put_each minute_of d rest) put ∙ sym (put_each-append minute_of D first rest) ∙ ap (put_each minute_of D) (sym whole) ∙ before

  pub room-rest : length D + length all ≤ BEATS → length new + length rest ≤ BEATS
  room-rest room = omega (arith, room, ap length whole, length-append first rest, ap length put, length-put_each minute_of D first)

  pub room-first : length D + length all ≤ BEATS → length D + length first ≤ BEATS
  room-first room = omega (arith, room, ap length whole, length-append first rest)

-- the beats of a lockage are put: its turn, its moorings, and its beginning and end
module _ (D turned moored gone : List Beat) (ts ms : List Beat) (g d : Beat)
    (turns : turned ≡ put_each minute_of D ts) (moors : moored ≡ put_each minute_of turned ms) where
  pub lockage-room_moors : length D + length (ts ++ (ms ++ g ∷ d ∷ [])) ≤ BEATS → length turned + length ms ≤ BEATS
  lockage-room_moors room = omega (arith, room, length-append ts (ms ++ g ∷ d ∷ []), length-append ms (g ∷ d ∷ []), ap length turns, length-put_each minute_of D ts)

  pub lockage-room_go : length D + length (ts ++ (ms ++ g ∷ d ∷ [])) ≤ BEATS → length moored + 1 < BEATS
  lockage-room_go room =
      omega (arith, room, length-append ts (ms ++ g ∷ d ∷ []), length-append ms (g ∷ d ∷ []), ap length turns, length-put_each minute_of D ts, ap length moors, length-put_each minute_of turned ms)

  pub lockage-put : gone ≡ put_by minute_of d (put_by minute_of g moored) → gone ≡ put_each minute_of D (ts ++ (ms ++ g ∷ d ∷ []))
  lockage-put ends =
      ends
      ∙ ap (λ x. put_by minute_of d (put_by minute_of g x)) moors
      ∙ ap (λ x. put_by minute_of d (put_by minute_of g (put_each minute_of x ms))) turns
      ∙ sym (put_each-append minute_of D ts (ms ++ g ∷ d ∷ []) ∙ put_each-append minute_of (put_each minute_of D ts) ms (g ∷ d ∷ []))

-- the first lockage of what is left of a line
pub line-next : (I : Instance) (P : Plan) (stand : Stand) (from : ℕ) (ps : List ℕ) (i : ℕ) (l : Lockage) → i < length ps → l ≡ lockage_at P (get_or ps i 0)
    → line_beats I P stand from (drop i ps) ≡ lockage_beats I (get_or ps i 0) l stand from ++ line_beats I P (stand_after l.way) (l.start + duration_of I l.chamber l.ships) (drop (i + 1) ps)
line-next I P stand from ps i l within here =
    ap (line_beats I P stand from) (drop_next ps i within)
    ∙ ap (λ l. lockage_beats I (get_or ps i 0) l stand from ++ line_beats I P (stand_after l.way) (l.start + duration_of I l.chamber l.ships) (drop (i + 1) ps)) (sym here)

-- four beats for each ship are enough
abbrev share : Lockage → ℕ
share l = sum_by (λ (s : ℕ). 4) l.ships

sum_by-four : (xs : List ℕ) → sum_by (λ (s : ℕ). 4) xs ≡ 4 * length xs
sum_by-four [] = refl
sum_by-four (x ∷ xs) = omega (arith, sum_by-four xs, sum_by-cons (λ (s : ℕ). 4) x xs)

module _ (I : Instance) where
  turns-few : (p : ℕ) (l : Lockage) (from : ℕ) (stand : Stand) (way : Way) → length (turn_beats I p l from stand way) ≤ 1
  turns-few p l from Low Up = omega arith
  turns-few p l from Low Down = omega arith
  turns-few p l from High Up = omega arith
  turns-few p l from High Down = omega arith

  order-long : (l : Lockage) → length (moor_order I l) ≡ length l.ships
  order-long l = length-in_turn I l (length l.ships) (by_depth I l)

  lockage-few : (p : ℕ) (l : Lockage) (stand : Stand) (from : ℕ) → 1 ≤ length l.ships → length (lockage_beats I p l stand from) ≤ share l
  lockage-few p l stand from some =
      let ts = turn_beats I p l from stand l.way in
      let ms = moor_beats p l (moor_order I l) in
      omega (
        arith,
        some,
        turns-few p l from stand l.way,
        length-append ts (ms ++ go_beat p l ∷ done_beat I p l ∷ []),
        length-append ms (go_beat p l ∷ done_beat I p l ∷ []),
        length-map (moor_order I l) (moor_beat p l),
        order-long l,
        sum_by-four l.ships,
      )

  line-few : (P : Plan) (stand : Stand) (from : ℕ) (ps : List ℕ) → All (λ l. 1 ≤ length l.ships) (lockages_at P ps) → length (line_beats I P stand from ps) ≤ sum_by share (lockages_at P ps)
  line-few P stand from [] some = omega arith
  line-few P stand from (p ∷ ps) some =
      let l = lockage_at P p in
      let here : 1 ≤ length l.ships = All-head (λ (l : Lockage). 1 ≤ length l.ships) l (lockages_at P ps) some in
      let rest = line_beats I P (stand_after l.way) (l.start + duration_of I l.chamber l.ships) ps in
      omega (
        arith,
        lockage-few p l stand from here,
        line-few P (stand_after l.way) (l.start + duration_of I l.chamber l.ships) ps (All-tail (λ (l : Lockage). 1 ≤ length l.ships) l (lockages_at P ps) some),
        length-append (lockage_beats I p l stand from) rest,
        sum_by-cons share l (lockages_at P ps),
      )

  module _ (P : Plan) (legal : IsLegal I P) where
    some-ships : All (λ l. 1 ≤ length l.ships) P.lockages
    some-ships k d within = (legal.lockage k d within).count.0

    chamber-few : (c : ℕ) → length (chamber_beats I P c) ≤ sum_by share (line_of P c)
    chamber-few c =
        let line = lockages_at-line P c in
        omega (
          arith,
          line-few P (chamber_at I c).stands (chamber_at I c).opens (line_places P c) (subst (All (λ l. 1 ≤ length l.ships)) (sym line) (All-line (λ l. 1 ≤ length l.ships) P c some-ships)),
          ap (sum_by share) line,
        )

    all-few : (cs : List ℕ) → length (beats_of I P cs) ≤ sum_by (λ c. sum_by share (line_of P c)) cs
    all-few [] = omega arith
    all-few (c ∷ cs) = omega (arith, chamber-few c, all-few cs, length-append (chamber_beats I P c) (beats_of I P cs), sum_by-cons (λ c. sum_by share (line_of P c)) c cs)

    shares : (ls : List Lockage) → sum_by share ls ≡ sum_by (λ (s : ℕ). 4) (ships_in ls)
    shares [] = refl
    shares (l ∷ ls) = omega (arith, shares ls, sum_by-cons share l ls, sum_by-append (λ (s : ℕ). 4) l.ships (ships_in ls))

    ships-once : (s : ℕ) → times_in (ships_in P.lockages) s ≡ times_in (numbers_from 0 (length I.ships)) s
    ships-once s =
        elim (leb_tells (length I.ships) s) [
          | inl past ↦ times_in-ships_in P.lockages s ∙ served_in-outside (length I.ships) P.lockages s (legal-ships I P legal) past.1 ∙ sym (times_in-above 0 (length I.ships) s (omega (arith, past.1)))
          | inr here ↦ times_in-ships_in P.lockages s ∙ legal.once s here.1 ∙ sym (times_in-between 0 (length I.ships) s (omega arith) (omega (arith, here.1)))
        ]

    -- A LEGAL PLAN HAS NO MORE BEATS THAN A DAY HOLDS.
    pub beats-few : length (beats_of I P (numbers_from 0 (length I.chambers))) ≤ BEATS
    beats-few =
        omega (
          arith,
          all-few (numbers_from 0 (length I.chambers)),
          sum_by-lines share (length I.chambers) P (legal-chambers I P legal),
          shares P.lockages,
          sum_by-counts (λ (s : ℕ). 4) (ships_in P.lockages) (numbers_from 0 (length I.ships)) ships-once,
          sum_by-four (numbers_from 0 (length I.ships)),
          length-numbers 0 (length I.ships),
          I.limits.ship_count.1,
        )

-- the chambers that are left
pub chambers-next : (I : Instance) (P : Plan) (c n : ℕ) → c < n → beats_of I P (numbers_from c (n - c)) ≡ chamber_beats I P c ++ beats_of I P (numbers_from (c + 1) (n - (c + 1)))
chambers-next I P c n less =
    let long : n - c ≡ suc (n - (c + 1)) = omega arith in
    let next : suc c ≡ c + 1 = omega arith in
    ap (λ k. beats_of I P (numbers_from c k)) long ∙ ap (λ d. chamber_beats I P c ++ beats_of I P (numbers_from d (n - (c + 1)))) next
