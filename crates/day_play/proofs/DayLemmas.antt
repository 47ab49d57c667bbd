-- The day of a legal plan is lawful.
use Rattle.std.proofs.Common.{◌≡◌, ℕ, suc, ◌+◌, ◌<◌, ◌≤◌, List, [], ◌∷◌, ◌++◌, length, map, inl, inr, refl, ap, sym, subst, ◌∙◌, arith, get_or}
use Rattle.std.proofs.lemmas.Bool.Decides.{leb_tells}
use Rattle.std.proofs.lemmas.List.{append_assoc}
use Rattle.lock_model.specs.Fleet.{chamber_at}
use Rattle.lock_model.specs.declared.instance.Instance.{Instance}
use Rattle.lock_model.specs.declared.plan.Lockage.{Lockage}
use Rattle.lock_model.specs.declared.plan.Plan.{Plan}
use Rattle.lock_model.specs.declared.way.Stand.{Stand}
use Rattle.lock_model.specs.declared.way.Stand.TheVariants.{Low, High}
use Rattle.lock_model.specs.declared.way.Way.{Way}
use Rattle.lock_model.specs.declared.way.Way.TheVariants.{Up, Down}
use Rattle.lock_rules.proofs.AmongLemmas.{among-append, among-times_in}
use Rattle.lock_rules.specs.Arrival.{numbers_from}
use Rattle.lock_rules.specs.Lawful.{HasTurned, IsLawfulStart, AreLawfulFrom, duration_of, stand_after}
use Rattle.lock_rules.specs.Lines.{lockage_at, group_of, no_lockage}
use Rattle.lock_rules.specs.Plan.{IsLegal, times_in, served_in}
use Rattle.lock_rules.specs.Timetable.{first_free}
use Rattle.lock_rules.proofs.FreeLemmas.{first_free-from}
use Rattle.lock_rules.proofs.TimetableLemmas.{turned_at-least}
use Rattle.chamber_times.specs.Walk.{lockages_at, line_places}
use Rattle.chamber_times.proofs.WalkLemmas.{lockages_at-line}
use Rattle.lock_rules.proofs.TreeLemmas.{IsAmong-left, IsAmong-right}
use Rattle.lock_rules.proofs.BoundLemmas.{IsAmong-numbers}
use Rattle.day_play.specs.Order.{minute_of, IsOrdered}
use Rattle.list_laws.specs.Among.{IsAmong}
use Rattle.day_play.specs.State.{opening, opening_chamber}
use Rattle.day_play.specs.Lawful.{IsLawfulDay}
use Rattle.day_play.specs.Playing.{CanAllComeIn, moor_beats, moor_order, turn_beats, go_beat, done_beat, lockage_beats, line_beats, chamber_beats, beats_by, beats_of, day_of}
use Rattle.day_play.specs.declared.beat.Beat.{Beat}
use Rattle.day_play.proofs.OrderLemmas.{ordered-lower, put_each-ordered, put_each-among, length-put_each}
use Rattle.day_play.proofs.RunLemmas.{beats_at, moors_in, RunsHere, IsFresh, idle_not_under, runs-lawful, runs-still, done-gone, done-served}
use Rattle.day_play.proofs.BeatLemmas.{beats-few}
use Rattle.day_play.proofs.ChamberLemmas.{order-can, IsGood, line-run}
use Rattle.day_play.proofs.MixLemmas.{own-once, others-after}
use Rattle.day_play.proofs.PlaceLemmas.{line_places-from, line_places-among, moors_in-put_each, moors-few}

-- all beats of a lockage are of its chamber
module _ (I : Instance) (p : ℕ) (l : Lockage) where
  turns-own : (from : ℕ) (stand : Stand) (way : Way) (x : Beat) → IsAmong (turn_beats I p l from stand way) x → x.chamber ≡ l.chamber
  turns-own from Low Up x h = absurd h
  turns-own from Low Down x (inl e) = sym (ap (λ (b : Beat). b.chamber) e)
  turns-own from Low Down x (inr none) = absurd none
  turns-own from High Up x (inl e) = sym (ap (λ (b : Beat). b.chamber) e)
  turns-own from High Up x (inr none) = absurd none
  turns-own from High Down x h = absurd h

  moors-own : (ks : List ℕ) (x : Beat) → IsAmong (moor_beats p l ks) x → x.chamber ≡ l.chamber
  moors-own [] x h = absurd h
  moors-own (k ∷ ks) x (inl e) = sym (ap (λ (b : Beat). b.chamber) e)
  moors-own (k ∷ ks) x (inr h) = moors-own ks x h

  ends-own : (x : Beat) → IsAmong (go_beat p l ∷ done_beat I p l ∷ []) x → x.chamber ≡ l.chamber
  ends-own x (inl e) = sym (ap (λ (b : Beat). b.chamber) e)
  ends-own x (inr (inl e)) = sym (ap (λ (b : Beat). b.chamber) e)
  ends-own x (inr (inr none)) = absurd none

  lockage-own : (stand : Stand) (from : ℕ) (x : Beat) → IsAmong (lockage_beats I p l stand from) x → x.chamber ≡ l.chamber
  lockage-own stand from x h =
      let ends = go_beat p l ∷ done_beat I p l ∷ [] in
      elim (among-append (turn_beats I p l from stand l.way) (moor_beats p l (moor_order I l) ++ ends) x h) [
        | inl turned ↦ turns-own from stand l.way x turned
        | inr rest ↦ elim (among-append (moor_beats p l (moor_order I l)) ends x rest) [
          | inl moored ↦ moors-own (moor_order I l) x moored
          | inr ended ↦ ends-own x ended
        ]
      ]

  -- and rise by minute
  turns-ordered : (from : ℕ) (stand : Stand) (way : Way) (rest : List Beat) → HasTurned (chamber_at I l.chamber) stand way from l.start → from ≤ l.start
      → IsOrdered minute_of l.start rest → IsOrdered minute_of from (turn_beats I p l from stand way ++ rest)
  turns-ordered from Low Up rest turned later order = ordered-lower minute_of l.start from rest later order
  turns-ordered from Low Down rest turned later order = (
    first_free-from (chamber_at I l.chamber).closures (chamber_at I l.chamber).turn from,
    ordered-lower minute_of l.start (first_free (chamber_at I l.chamber).closures (chamber_at I l.chamber).turn from) rest (omega (arith, turned_at-least (chamber_at I l.chamber) from l.start turned)) order,
  )
  turns-ordered from High Up rest turned later order = (
    first_free-from (chamber_at I l.chamber).closures (chamber_at I l.chamber).turn from,
    ordered-lower minute_of l.start (first_free (chamber_at I l.chamber).closures (chamber_at I l.chamber).turn from) rest (omega (arith, turned_at-least (chamber_at I l.chamber) from l.start turned)) order,
  )
  turns-ordered from High Down rest turned later order = ordered-lower minute_of l.start from rest later order

  pub moors-ordered : (ks : List ℕ) (rest : List Beat) → IsOrdered minute_of l.start rest → IsOrdered minute_of l.start (moor_beats p l ks ++ rest)
  moors-ordered [] rest order = order
  moors-ordered (k ∷ ks) rest order = (omega arith, moors-ordered ks rest order)

  pub lockage-ordered : (stand : Stand) (from : ℕ) (rest : List Beat) → IsLawfulStart I l.chamber stand from (group_of l) l.start
      → IsOrdered minute_of (l.start + duration_of I l.chamber l.ships) rest → IsOrdered minute_of from (lockage_beats I p l stand from ++ rest)
  lockage-ordered stand from rest lawful order =
      let ts = turn_beats I p l from stand l.way in
      let ms = moor_beats p l (moor_order I l) in
      let ends = go_beat p l ∷ done_beat I p l ∷ [] in
      let all : (ts ++ (ms ++ ends)) ++ rest ≡ ts ++ (ms ++ (ends ++ rest)) = append_assoc ts (ms ++ ends) rest ∙ ap (λ xs. ts ++ xs) (append_assoc ms ends rest) in
      subst (IsOrdered minute_of from) (sym all)
      (turns-ordered from stand l.way (ms ++ (ends ++ rest)) lawful.turned lawful.later (moors-ordered (moor_order I l) (ends ++ rest) (omega arith, (omega arith, order))))

module _ (I : Instance) (P : Plan) where
  pub line-own : (c : ℕ) (stand : Stand) (from : ℕ) (ps : List ℕ) → ((q : ℕ) → IsAmong ps q → (lockage_at P q).chamber ≡ c) → (x : Beat) → IsAmong (line_beats I P stand from ps) x → x.chamber ≡ c
  line-own c stand from [] own x h = absurd h
  line-own c stand from (q ∷ ps) own x h =
      let l = lockage_at P q in
      elim (among-append (lockage_beats I q l stand from) (line_beats I P (stand_after l.way) (l.start + duration_of I l.chamber l.ships) ps) x h) [
        | inl first ↦ lockage-own I q l stand from x first ∙ own q (inl refl)
        | inr rest ↦ line-own c (stand_after l.way) (l.start + duration_of I l.chamber l.ships) ps (λ r among. own r (inr among)) x rest
      ]

  pub chamber-own : (c : ℕ) (x : Beat) → IsAmong (chamber_beats I P c) x → x.chamber ≡ c
  chamber-own c x h = line-own c (chamber_at I c).stands (chamber_at I c).opens (line_places P c) (λ q among. (line_places-from P c q among).1) x h

  line-ordered : (c : ℕ) (stand : Stand) (from : ℕ) (ps : List ℕ) → ((q : ℕ) → IsAmong ps q → (lockage_at P q).chamber ≡ c)
      → AreLawfulFrom I c stand from (map group_of (lockages_at P ps)) (map (λ l. l.start) (lockages_at P ps)) → IsOrdered minute_of from (line_beats I P stand from ps)
  line-ordered c stand from [] own lawful = tt
  line-ordered c stand from (q ∷ ps) own lawful =
      let l = lockage_at P q in
      let first : IsLawfulStart I l.chamber stand from (group_of l) l.start = subst (λ c. IsLawfulStart I c stand from (group_of l) l.start) (sym (own q (inl refl))) lawful.0 in
      lockage-ordered I q l stand from (line_beats I P (stand_after l.way) (l.start + duration_of I l.chamber l.ships) ps) first
      (line-ordered c (stand_after l.way) (l.start + duration_of I l.chamber l.ships) ps (λ r among. own r (inr among))
      (subst (λ d. AreLawfulFrom I c (stand_after l.way) (l.start + duration_of I d l.ships) (map group_of (lockages_at P ps)) (map (λ l. l.start) (lockages_at P ps))) (sym (own q (inl refl))) lawful.1))

  pub line-done : (stand : Stand) (from : ℕ) (ps : List ℕ) (q : ℕ) → IsAmong ps q → IsAmong (line_beats I P stand from ps) (done_beat I q (lockage_at P q))
  line-done stand from [] q h = absurd h
  line-done stand from (p ∷ ps) q (inl e) =
      let l = lockage_at P p in
      let ends = go_beat p l ∷ done_beat I p l ∷ [] in
      let own = IsAmong-right (turn_beats I p l from stand l.way) (moor_beats p l (moor_order I l) ++ ends) (done_beat I p l) (IsAmong-right (moor_beats p l (moor_order I l)) ends (done_beat I p l) (inr (inl refl))) in
      subst (λ q. IsAmong (line_beats I P stand from (p ∷ ps)) (done_beat I q (lockage_at P q))) e
      (IsAmong-left (lockage_beats I p l stand from) (line_beats I P (stand_after l.way) (l.start + duration_of I l.chamber l.ships) ps) (done_beat I p l) own)
  line-done stand from (p ∷ ps) q (inr h) =
      let l = lockage_at P p in
      IsAmong-right (lockage_beats I p l stand from) (line_beats I P (stand_after l.way) (l.start + duration_of I l.chamber l.ships) ps) (done_beat I q (lockage_at P q))
      (line-done (stand_after l.way) (l.start + duration_of I l.chamber l.ships) ps q h)

-- the beats of a chamber are among those of all
pub beats-among : (own : ℕ → List Beat) (cs : List ℕ) (c : ℕ) (x : Beat) → IsAmong cs c → IsAmong (own c) x → IsAmong (beats_by own cs) x
beats-among own [] c x h here = absurd h
beats-among own (d ∷ cs) c x (inl e) here = IsAmong-left (own d) (beats_by own cs) x (subst (λ c. IsAmong (own c) x) (sym e) here)
beats-among own (d ∷ cs) c x (inr h) here = IsAmong-right (own d) (beats_by own cs) x (beats-among own cs c x h here)

-- a ship that is served lies in some lockage
pub served_in-some : (ls : List Lockage) (i : ℕ) → 1 ≤ served_in ls i → (q : ℕ) × (q < length ls) × IsAmong (get_or ls q no_lockage).ships i
served_in-some [] i some = absurd (omega arith)
served_in-some (l ∷ ls) i some =
    elim (leb_tells 1 (times_in l.ships i)) [
      | inl here ↦ (0, omega arith, among-times_in l.ships i here.1)
      | inr none ↦ let rest = served_in-some ls i (omega (arith, none.1, some)) in (suc rest.0, omega (arith, rest.1), rest.2)
    ]

module _ (I : Instance) (P : Plan) (legal : IsLegal I P) where
  lawful-line : (c : ℕ) → c < length I.chambers → AreLawfulFrom I c (chamber_at I c).stands (chamber_at I c).opens (map group_of (lockages_at P (line_places P c))) (map (λ l. l.start) (lockages_at P (line_places P c)))
  lawful-line c known =
      subst (λ ls. AreLawfulFrom I c (chamber_at I c).stands (chamber_at I c).opens (map group_of ls) (map (λ l. l.start) ls)) (sym (lockages_at-line P c)) (legal.timely c known).lawful

  good : (c q : ℕ) → IsAmong (line_places P c) q → IsGood I P c q
  good c q among =
      let at = line_places-from P c q among in
      record { known = at.0; legal = legal.lockage q no_lockage at.0; own = at.1 }

  pub rises : (c : ℕ) → c < length I.chambers → IsOrdered minute_of 0 (chamber_beats I P c)
  rises c known =
      ordered-lower minute_of (chamber_at I c).opens 0 (chamber_beats I P c) (omega arith)
      (line-ordered I P c (chamber_at I c).stands (chamber_at I c).opens (line_places P c) (λ q among. (line_places-from P c q among).1) (lawful-line c known))

  each : (c : ℕ) → RunsHere I P (opening_chamber I c) (beats_at c (day_of I P))
  each c =
      elim (leb_tells (length I.chambers) c) [
        | inl past ↦
            let nothing = others-after c (chamber_beats I P) (length I.chambers) (chamber-own I P) (rises c) 0 (length I.chambers) [] (inr (omega (arith, past.1))) in
            subst (RunsHere I P (opening_chamber I c)) (sym nothing) (record { empty = refl; idle = refl })
        | inr known ↦
            let all = own-once c (chamber_beats I P) (length I.chambers) (chamber-own I P) (rises c) 0 (length I.chambers) [] tt refl (omega arith) (omega (arith, known.1)) known.1 in
            subst (RunsHere I P (opening_chamber I c)) (sym all) (line-run I P c (chamber_at I c).stands (chamber_at I c).opens (line_places P c) (good c) (lawful-line c known.1))
      ]

  fresh : IsFresh I P (opening I) (moors_in (day_of I P))
  fresh = record {
    few = λ i. omega (arith, moors_in-put_each [] (beats_of I P (numbers_from 0 (length I.chambers))) i, moors-few I i P legal);
    served = λ i h. absurd h;
    moored = λ c m h. absurd h;
    going = λ c p e. absurd (idle_not_under p e);
    gone = λ p h. absurd h;
  }

  ended : (q : ℕ) → q < length P.lockages → IsAmong (day_of I P) (done_beat I q (lockage_at P q))
  ended q known =
      let c = (lockage_at P q).chamber in
      let lockage = legal.lockage q no_lockage known in
      put_each-among minute_of [] (beats_of I P (numbers_from 0 (length I.chambers))) (done_beat I q (lockage_at P q))
      (beats-among (chamber_beats I P) (numbers_from 0 (length I.chambers)) c (done_beat I q (lockage_at P q)) (IsAmong-numbers 0 (length I.chambers) c (omega arith) (omega (arith, lockage.chamber)))
      (line-done I P (chamber_at I c).stands (chamber_at I c).opens (line_places P c) q (line_places-among P q known)))

  -- THE DAY OF A LEGAL PLAN IS LAWFUL.
  pub day_lawful : IsLawfulDay I P (day_of I P)
  day_lawful = record {
    few = omega (arith, length-put_each minute_of [] (beats_of I P (numbers_from 0 (length I.chambers))), beats-few I P legal);
    rising = put_each-ordered minute_of [] (beats_of I P (numbers_from 0 (length I.chambers))) tt;
    lawful = runs-lawful I P (day_of I P) (opening I) each fresh;
    over = record {
      served = λ i known.
          let at = served_in-some P.lockages i (omega (arith, legal.once i known)) in
          done-served I P (day_of I P) (opening I) at.0 (lockage_at P at.0) i (ended at.0 at.1) at.2;
      gone = λ q known. done-gone I P (day_of I P) (opening I) q (lockage_at P q) (ended q known);
      still = λ c known. runs-still I P (day_of I P) (opening I) each c;
    };
  }

-- so is a list that is that day
pub played_lawful : (I : Instance) (P : Plan) (d : List Beat) → IsLegal I P → d ≡ day_of I P → IsLawfulDay I P d
played_lawful I P d legal same = subst (IsLawfulDay I P) (sym same) (day_lawful I P legal)

-- and in each of its lockages all ships can come in as they moor
pub played_comes : (I : Instance) (P : Plan) → IsLegal I P → CanAllComeIn I P
played_comes I P legal p within = order-can I P p within (legal.lockage p no_lockage within)
