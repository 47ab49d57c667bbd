-- Courses whose chambers go on from one part to the next: lockages in a row, a turn, and others.
use Rattle.std.proofs.Common.{◌≡◌, ℕ, ◌+◌, ◌≤◌, List, [], ◌∷◌, ◌++◌, map, inl, inr, refl, sym, subst, ◌∙◌, arith}
use Rattle.std.proofs.lemmas.List.{append_assoc}
use Rattle.lock_model.specs.declared.instance.Instance.{Instance}
use Rattle.lock_model.specs.declared.plan.Plan.{Plan}
use Rattle.lock_model.specs.declared.way.Stand.{Stand}
use Rattle.lock_rules.specs.Lawful.{IsLawfulStart, AreLawfulFrom, duration_of, stand_after}
use Rattle.lock_rules.specs.Lines.{lockage_at, group_of}
use Rattle.chamber_times.specs.FirstBreak.{stand_after_all, done_after_all}
use Rattle.chamber_times.specs.Walk.{lockages_at}
use Rattle.list_laws.specs.Among.{IsAmong}
use Rattle.day_play.specs.Order.{minute_of, IsOrdered}
use Rattle.day_play.specs.State.{Idle, ChamberState, chamber_after}
use Rattle.day_play.specs.Lawful.{MayDo}
use Rattle.day_play.specs.Playing.{lockage_beats, line_beats}
use Rattle.day_play.specs.declared.beat.Act.TheVariants.{Turn, Moor, Go, Done}
use Rattle.day_play.specs.declared.beat.Act.{Act}
use Rattle.day_play.specs.declared.beat.Beat.{Beat}
use Rattle.day_play.proofs.ChamberLemmas.{IsGood, lockage-run}
use Rattle.day_play.proofs.DayLemmas.{lockage-ordered}
use Rattle.day_play.proofs.RunLemmas.{RunsHere, idle_not_under}

-- a chamber that stands so, is free since then, and is still
abbrev pub still_chamber : Stand → ℕ → ChamberState
still_chamber stand from = record { side = stand; free = from; moored = []; going = Idle }

module _ (I : Instance) (P : Plan) where
  -- a chamber that is free since earlier may do what it may do
  sooner-may : (t c p free : ℕ) (a : Act) (s : ChamberState) → s.going ≡ Idle → free ≤ s.free → MayDo I P t c p a s → MayDo I P t c p a (record s { free = free })
  sooner-may t c p free Turn s idle less may = record { in_lock = may.in_lock; still = record { empty = may.still.empty; idle = may.still.idle }; later = omega (arith, less, may.later); free = may.free }
  sooner-may t c p free (Moor i) s idle less may = record {
    lockage = may.lockage;
    start = may.start;
    idle = may.idle;
    same = may.same;
    room = may.room;
    arrived = may.arrived;
    way = may.way;
    place = may.place;
    within = may.within;
    ship = may.ship;
    lies = record { inside = may.lies.inside; apart = may.lies.apart; berthed = may.lies.berthed; host = may.lies.host; clear = may.lies.clear };
  }
  sooner-may t c p free Go s idle less may = record {
    lockage = may.lockage;
    start = may.start;
    idle = may.idle;
    some = may.some;
    all = may.all;
    later = omega (arith, less, may.later);
    side = may.side;
    free = may.free;
  }
  sooner-may t c p free Done s idle less may = absurd (idle_not_under p (sym idle ∙ may.going))

  pub runs-sooner : (free : ℕ) (bs : List Beat) (s : ChamberState) → s.going ≡ Idle → free ≤ s.free → RunsHere I P s bs → RunsHere I P (record s { free = free }) bs
  runs-sooner free [] s idle less still = record { empty = still.empty; idle = still.idle }
  runs-sooner free (b ∷ bs) s idle less runs = (sooner-may b.minute b.chamber b.lockage free b.act s idle less runs.0, by b.act runs.0 runs.1 (λ i. runs-sooner free bs (chamber_after I P b.minute b.chamber b.lockage (Moor i) s) idle less))
    where
      by : (a : Act) → MayDo I P b.minute b.chamber b.lockage a s → RunsHere I P (chamber_after I P b.minute b.chamber b.lockage a s) bs
          → ((i : ℕ) → RunsHere I P (chamber_after I P b.minute b.chamber b.lockage (Moor i) s) bs → RunsHere I P (record (chamber_after I P b.minute b.chamber b.lockage (Moor i) s) { free = free }) bs)
          → RunsHere I P (chamber_after I P b.minute b.chamber b.lockage a (record s { free = free })) bs
      by Turn may rest moored = rest
      by (Moor i) may rest moored = moored i rest
      by Go may rest moored = rest
      by Done may rest moored = absurd (idle_not_under b.lockage (sym idle ∙ may.going))

  module _ (c : ℕ) where
    -- A line with lawful starts may be played in its chamber before what the chamber may do then.
    pub line-then : (stand : Stand) (from : ℕ) (ps : List ℕ) (rest : List Beat) → ((q : ℕ) → IsAmong ps q → IsGood I P c q)
        → AreLawfulFrom I c stand from (map group_of (lockages_at P ps)) (map (λ l. l.start) (lockages_at P ps))
        → RunsHere I P (still_chamber (stand_after_all stand (lockages_at P ps)) (done_after_all I c from (lockages_at P ps))) rest
        → RunsHere I P (still_chamber stand from) (line_beats I P stand from ps ++ rest)
    line-then stand from [] rest good lawful next = next
    line-then stand from (q ∷ ps) rest good lawful next =
        let here = good q (inl refl) in
        let l = lockage_at P q in
        let first : IsLawfulStart I l.chamber stand from (group_of l) l.start = subst (λ c. IsLawfulStart I c stand from (group_of l) l.start) (sym here.own) lawful.0 in
        let after : RunsHere I P (still_chamber (stand_after l.way) (l.start + duration_of I c l.ships)) (line_beats I P (stand_after l.way) (l.start + duration_of I c l.ships) ps ++ rest) =
        line-then (stand_after l.way) (l.start + duration_of I c l.ships) ps rest (λ r among. good r (inr among)) lawful.1 next in
        subst (RunsHere I P (still_chamber stand from)) (sym (append_assoc (lockage_beats I q l stand from) (line_beats I P (stand_after l.way) (l.start + duration_of I l.chamber l.ships) ps) rest))
        (lockage-run I P q here.known here.legal first.arrived stand from (line_beats I P (stand_after l.way) (l.start + duration_of I l.chamber l.ships) ps ++ rest) first
        (subst (λ d. RunsHere I P (still_chamber (stand_after l.way) (l.start + duration_of I d l.ships)) (line_beats I P (stand_after l.way) (l.start + duration_of I d l.ships) ps ++ rest)) (sym here.own) after))

    -- and its beats come in order before those of what comes then
    pub line-order : (stand : Stand) (from : ℕ) (ps : List ℕ) (rest : List Beat) → ((q : ℕ) → IsAmong ps q → (lockage_at P q).chamber ≡ c)
        → AreLawfulFrom I c stand from (map group_of (lockages_at P ps)) (map (λ l. l.start) (lockages_at P ps))
        → IsOrdered minute_of (done_after_all I c from (lockages_at P ps)) rest
        → IsOrdered minute_of from (line_beats I P stand from ps ++ rest)
    line-order stand from [] rest own lawful next = next
    line-order stand from (q ∷ ps) rest own lawful next =
        let here = own q (inl refl) in
        let l = lockage_at P q in
        let first : IsLawfulStart I l.chamber stand from (group_of l) l.start = subst (λ c. IsLawfulStart I c stand from (group_of l) l.start) (sym here) lawful.0 in
        let after : IsOrdered minute_of (l.start + duration_of I c l.ships) (line_beats I P (stand_after l.way) (l.start + duration_of I c l.ships) ps ++ rest) =
        line-order (stand_after l.way) (l.start + duration_of I c l.ships) ps rest (λ r among. own r (inr among)) lawful.1 next in
        subst (IsOrdered minute_of from) (sym (append_assoc (lockage_beats I q l stand from) (line_beats I P (stand_after l.way) (l.start + duration_of I l.chamber l.ships) ps) rest))
        (lockage-ordered I q l stand from (line_beats I P (stand_after l.way) (l.start + duration_of I l.chamber l.ships) ps ++ rest) first
        (subst (λ d. IsOrdered minute_of (l.start + duration_of I d l.ships) (line_beats I P (stand_after l.way) (l.start + duration_of I d l.ships) ps ++ rest)) (sym here) after))
