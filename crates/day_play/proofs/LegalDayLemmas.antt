-- A plan that has a lawful day is legal.
use Rattle.std.proofs.Common.{◌≡◌, ◌↔◌, ℕ, ◌<◌, List, length, map, inl, inr, refl, ap, sym, subst, ◌∙◌, arith}
use Rattle.std.proofs.lemmas.Bool.Decides.{eqb_tells, leb_tells}
use Rattle.std.proofs.lemmas.List.{length-map, get_or_default}
use Rattle.lock_model.specs.Fleet.{ship_at, chamber_at, no_chamber}
use Rattle.lock_model.specs.Fitting.{size_of, deck_of}
use Rattle.lock_model.specs.declared.instance.Instance.{Instance}
use Rattle.lock_model.specs.declared.plan.Plan.{Plan}
use Rattle.lock_rules.proofs.AmongLemmas.{among-times_in}
use Rattle.lock_rules.specs.Lawful.{AreLawfulFrom}
use Rattle.lock_rules.specs.Lines.{no_lockage, lockage_at, group_of, line_of}
use Rattle.lock_rules.specs.Plan.{IsLegal, IsLegalLockage, IsTimely, times_in, served_in}
use Rattle.chamber_times.specs.Walk.{lockages_at, line_places}
use Rattle.chamber_times.proofs.WalkLemmas.{lockages_at-line}
use Rattle.day_play.specs.Rising.{AreRising}
use Rattle.list_laws.specs.Among.{IsAmong}
use Rattle.day_play.specs.State.{opening, after_all}
use Rattle.day_play.specs.Lawful.{IsLawfulCourse, HasLawfulDay}
use Rattle.day_play.specs.Playing.{day_of}
use Rattle.day_play.specs.declared.beat.Beat.{Beat}
use Rattle.day_play.proofs.DayLemmas.{played_lawful}
use Rattle.day_play.proofs.PlaceLemmas.{start_at, line_places-from, line_places-among, line_places-once, line_places-ordered}
use Rattle.day_play.proofs.RunLemmas.{idle_not_under}
use Rattle.day_play.proofs.SoundLemmas.{IsCleared, IsSoundState}
use Rattle.day_play.proofs.StateLemmas.{sound-opening, sound-after_all}
use Rattle.day_play.proofs.TimesLemmas.{times_in-among, times_in-absent, increasing-once, ordered-same, served_in-one}
use Rattle.day_play.proofs.WentLemmas.{went, went-lawful, went-from, starts-rise}
use Rattle.day_play.proofs.OnceLemmas.{HasGone, went-once}

module _ (I : Instance) (P : Plan) (rising : AreRising P) (bs : List Beat) (day : IsLawfulCourse I P bs) where
  sound : IsSoundState I P (after_all I P bs (opening I))
  sound = sound-after_all I P rising bs (opening I) (sound-opening I P) day.lawful

  cleared : (p : ℕ) → p < length P.lockages → IsCleared I P (lockage_at P p).chamber p
  cleared p known = sound.cleared p (day.over.gone p known)

  -- EACH LOCKAGE IS LEGAL.
  lockage-legal : (p : ℕ) → p < length P.lockages → IsLegalLockage I (lockage_at P p)
  lockage-legal p known =
      let l = lockage_at P p in
      let own = cleared p known in
      let long : length (deck_of I l.chamber l.ships).ships ≡ length l.ships = length-map l.ships (λ s. size_of (ship_at I s)) in
      record {
        chamber = own.lockage.whole.chamber;
        known = own.lockage.whole.ships;
        rising = rising.each p known;
        count = (own.some, own.room);
        way = λ k d within. subst (λ s. (ship_at I s).way ≡ l.way) (get_or_default l.ships k 0 d within) (own.lies k within).way;
        placed = record {
          count = own.lockage.whole.spots ∙ sym long;
          inside = λ k within. (own.lies k (omega (arith, within, long))).inside;
          apart = λ k within. record { later = λ j less inside. (own.pairs k j (omega (arith, within, long)) (omega (arith, inside, long)) (λ e. absurd (omega (arith, less, e)))).apart };
          berthed = λ k within. (own.lies k (omega (arith, within, long))).berthed;
        };
        clear = record {
          clear = λ k within. record { later = λ j less inside. (own.pairs k j (omega (arith, within, long)) (omega (arith, inside, long)) (λ e. absurd (omega (arith, less, e)))).clear };
        };
      }

  -- EACH SHIP IS SERVED ONCE.
  served-once : (s : ℕ) → s < length I.ships → served_in P.lockages s ≡ 1
  served-once s known =
      let by = sound.from s (day.over.served s known) in
      let there : by.by < length P.lockages = (sound.cleared by.by by.over).lockage.known in
      served_in-one s P.lockages by.by there
      (λ p within. increasing-once (lockage_at P p).ships s (rising.each p within))
      (times_in-among (lockage_at P by.by).ships s by.own)
      (λ p within held. sound.only p by.by s (day.over.gone p within) by.over (among-times_in (lockage_at P p).ships s held) by.own)

  -- THE LOCKAGES OF A CHAMBER go in the order of its line, each once.
  pub went-line : (c : ℕ) → c < length I.chambers → line_places P c ≡ went c bs
  went-line c known =
      ordered-same (start_at P) 0 (line_places P c) (went c bs)
      (line_places-ordered P c)
      (starts-rise I P c (I.limits.chamber c no_chamber known).pass.0 (chamber_at I c).stands (chamber_at I c).opens (went c bs)
      (went-lawful I P c rising bs (opening I) (chamber_at I c).stands (chamber_at I c).opens (sound-opening I P) day.lawful (omega arith, inl refl)))
      same
    where
      fresh : (q : ℕ) → HasGone I P (opening I) q → ⊥
      fresh q (inl gone) = gone
      fresh q (inr under) = idle_not_under q under

      same : (q : ℕ) → times_in (line_places P c) q ≡ times_in (went c bs) q
      same q =
          elim (leb_tells (length P.lockages) q) [
            | inl past ↦
                times_in-absent (line_places P c) q (λ h. absurd (omega (arith, past.1, (line_places-from P c q h).0)))
                ∙ sym (times_in-absent (went c bs) q (λ h. absurd (omega (arith, past.1, (went-from I P c bs (opening I) q day.lawful h).0))))
            | inr here ↦ elim (eqb_tells (lockage_at P q).chamber c) [
              | inl own ↦
                  let one : times_in (went c bs) q ≡ 1 = subst (λ c. times_in (went c bs) q ≡ 1) own.1 (went-once I P rising bs (opening I) q (sound-opening I P) day.lawful (fresh q) (day.over.gone q here.1)) in
                  let held : IsAmong (line_places P c) q = subst (λ c. IsAmong (line_places P c) q) own.1 (line_places-among P q here.1) in
                  omega (arith, one, line_places-once P c q, times_in-among (line_places P c) q held)
              | inr other ↦
                  times_in-absent (line_places P c) q (λ h. other.1 (line_places-from P c q h).1)
                  ∙ sym (times_in-absent (went c bs) q (λ h. other.1 (went-from I P c bs (opening I) q day.lawful h).1))
            ]
          ]

  -- EACH CHAMBER'S LINE IS LAWFUL.
  line-timely : (c : ℕ) → c < length I.chambers → IsTimely I P c
  line-timely c known =
      let all : lockages_at P (went c bs) ≡ line_of P c = ap (lockages_at P) (sym (went-line c known)) ∙ lockages_at-line P c in
      record {
        lawful = subst (λ ls. AreLawfulFrom I c (chamber_at I c).stands (chamber_at I c).opens (map group_of ls) (map (λ l. l.start) ls)) all
            (went-lawful I P c rising bs (opening I) (chamber_at I c).stands (chamber_at I c).opens (sound-opening I P) day.lawful (omega arith, inl refl));
      }

  -- A PLAN WITH A LAWFUL DAY IS LEGAL, where its lockages name their ships in rising order.
  pub day-legal : IsLegal I P
  day-legal = record {
    once = served-once;
    lockage = λ p d within. subst (IsLegalLockage I) (get_or_default P.lockages p no_lockage d within) (lockage-legal p within);
    timely = line-timely;
  }

-- EXACTLY THE LEGAL PLANS have lawful days.
pub has-day-legal : (I : Instance) (P : Plan) → AreRising P → HasLawfulDay I P ↔ IsLegal I P
has-day-legal I P rising = (λ day. day-legal I P rising day.0 (record { rising = day.1.rising; lawful = day.1.lawful; over = day.1.over }), λ legal. (day_of I P, played_lawful I P (day_of I P) legal refl))
