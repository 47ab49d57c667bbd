-- Breaks of a line: what breaks a rule isn't lawful, and what breaks none is.
use Rattle.std.proofs.Common.{◌≡◌, ℕ, suc, ◌+◌, ◌<◌, ◌≤◌, List, [], ◌∷◌, ◌++◌, length, map, take, drop, get_or, inl, inr, ap, sym, subst, ◌∙◌, arith}
use Rattle.std.proofs.lemmas.Bool.Decides.{leb_tells}
use Rattle.std.proofs.lemmas.List.{map-append, take-append-drop}
use Rattle.std.proofs.Math.Seq.{drop-cons, take-suc}
use Rattle.lock_model.specs.Fleet.{ship_at, chamber_at}
use Rattle.lock_model.specs.declared.instance.Instance.{Instance}
use Rattle.lock_model.specs.declared.plan.Lockage.{Lockage}
use Rattle.lock_model.specs.declared.plan.Plan.{Plan}
use Rattle.lock_model.specs.declared.way.Stand.{Stand}
use Rattle.lock_rules.specs.Lawful.{IsFree, IsLawfulStart, AreLawfulFrom, duration_of, stand_after}
use Rattle.lock_rules.specs.Timetable.{ready_at}
use Rattle.lock_rules.specs.Lines.{group_of, line_of, lockage_at}
use Rattle.lock_rules.specs.Plan.{IsTimely}
use Rattle.lock_rules.proofs.TimetableLemmas.{ready_at-from, ready_at-least, ready_at-turned, closures_kept}
use Rattle.chamber_times.specs.Walk.{lockages_at, line_places}
use Rattle.chamber_times.specs.FirstBreak.{IsEarly, IsNotEarly, IsSoon, IsShut, Breaks, AreTimely, IsFirstBreak, stand_after_all, done_after_all}
use Rattle.chamber_times.specs.declared.breaks.BrokenTime.{BrokenTime}
use Rattle.chamber_times.specs.declared.breaks.BrokenTime.TheVariants.{Early, Soon, Shut}
use Rattle.chamber_times.proofs.WalkLemmas.{lockages_at-line}

module _ (I : Instance) (c : ℕ) where
  IsEarly-unlawful : (stand : Stand) (from : ℕ) (l : Lockage) → IsEarly I l → IsLawfulStart I c stand from (group_of l) l.start → ⊥
  IsEarly-unlawful stand from l early lawful =
      let late = early.late in
      let arrived : (ship_at I late.1).arrival ≤ l.start = subst (λ s. (ship_at I s).arrival ≤ l.start) late.3 (lawful.arrived late.0 late.1 late.2) in
      absurd (omega (arith, arrived, late.4))

  IsSoon-unlawful : (stand : Stand) (from : ℕ) (l : Lockage) → IsSoon I c stand from l → IsLawfulStart I c stand from (group_of l) l.start → ⊥
  IsSoon-unlawful stand from l soon lawful =
      elim soon.soon [
        | inl before ↦ absurd (omega (arith, before, lawful.later))
        | inr none ↦ none lawful.turned
      ]

  -- a break isn't lawful
  pub Breaks-unlawful : (stand : Stand) (from : ℕ) (l : Lockage) (p : ℕ) (b : BrokenTime) → Breaks I c stand from l p b → IsLawfulStart I c stand from (group_of l) l.start → ⊥
  Breaks-unlawful stand from l p (Early q) broken lawful = IsEarly-unlawful stand from l broken.1 lawful
  Breaks-unlawful stand from l p (Soon q) broken lawful = IsSoon-unlawful stand from l broken.1 lawful
  Breaks-unlawful stand from l p (Shut q) broken lawful = broken.1.shut lawful.free

  -- a start before the chamber can be ready is too soon
  pub IsSoon-before : (stand : Stand) (from : ℕ) (l : Lockage) → IsNotEarly I l → l.start < ready_at (chamber_at I c) stand from l.way → IsSoon I c stand from l
  IsSoon-before stand from l on_time before = record {
    on_time = on_time;
    soon = elim (leb_tells from l.start) [
      | inl after ↦ inr (λ turned. absurd (omega (arith, before, ready_at-least (chamber_at I c) stand from l.start l.way after.1 turned)))
      | inr early ↦ inl early.1
    ];
  }

  module _ (known : c < length I.chambers) (stand : Stand) (from : ℕ) (l : Lockage) (on_time : IsNotEarly I l) (ready : ready_at (chamber_at I c) stand from l.way ≤ l.start) where
    later : from ≤ l.start
    later = omega (arith, ready, ready_at-from (chamber_at I c) stand from l.way)

    -- a start from then on is lawful where the span is free
    pub IsLawfulStart-free : IsFree (chamber_at I c).closures l.start (l.start + duration_of I c l.ships) → IsLawfulStart I c stand from (group_of l) l.start
    IsLawfulStart-free free = record {
      arrived = on_time.arrived;
      later = later;
      turned = ready_at-turned (chamber_at I c) stand from l.start l.way (closures_kept I c known) ready;
      free = free;
    }

    -- and shut where it isn't
    pub IsShut-not_free : (IsFree (chamber_at I c).closures l.start (l.start + duration_of I c l.ships) → ⊥) → IsShut I c stand from l
    IsShut-not_free shut = record {
      on_time = on_time;
      later = later;
      turned = ready_at-turned (chamber_at I c) stand from l.start l.way (closures_kept I c known) ready;
      shut = shut;
    }

  lawful-more : (stand : Stand) (from : ℕ) (ls : List Lockage) (l : Lockage)
      → AreLawfulFrom I c stand from (map group_of ls) (map (λ l. l.start) ls)
      → IsLawfulStart I c (stand_after_all stand ls) (done_after_all I c from ls) (group_of l) l.start
      → AreLawfulFrom I c stand from (map group_of (ls ++ l ∷ [])) (map (λ l. l.start) (ls ++ l ∷ []))
  lawful-more stand from [] l lawful here = (here, tt)
  lawful-more stand from (k ∷ ls) l lawful here =
      (lawful.0, lawful-more (stand_after k.way) (k.start + duration_of I c k.ships) ls l lawful.1 here)

  lawful-at : (stand : Stand) (from : ℕ) (ls : List Lockage) (l : Lockage) (rest : List Lockage)
      → AreLawfulFrom I c stand from (map group_of (ls ++ l ∷ rest)) (map (λ l. l.start) (ls ++ l ∷ rest))
      → IsLawfulStart I c (stand_after_all stand ls) (done_after_all I c from ls) (group_of l) l.start
  lawful-at stand from [] l rest lawful = lawful.0
  lawful-at stand from (k ∷ ls) l rest lawful = lawful-at (stand_after k.way) (k.start + duration_of I c k.ships) ls l rest lawful.1

  -- the state of the chamber after one lockage more
  stand_after_all-more : (stand : Stand) (ls : List Lockage) (l : Lockage) → stand_after_all stand (ls ++ l ∷ []) ≡ stand_after l.way
  stand_after_all-more stand [] l = λ i. stand_after l.way
  stand_after_all-more stand (k ∷ ls) l = stand_after_all-more (stand_after k.way) ls l

  done_after_all-more : (from : ℕ) (ls : List Lockage) (l : Lockage) → done_after_all I c from (ls ++ l ∷ []) ≡ l.start + duration_of I c l.ships
  done_after_all-more from [] l = λ i. l.start + duration_of I c l.ships
  done_after_all-more from (k ∷ ls) l = done_after_all-more (k.start + duration_of I c k.ships) ls l

  module _ (P : Plan) where
    -- a first break leaves the line not timely
    pub IsFirstBreak-untimely : (b : BrokenTime) → IsFirstBreak I P c b → IsTimely I P c → ⊥
    IsFirstBreak-untimely b first timely =
        let before = lockages_at P first.before in
        let line : line_of P c ≡ before ++ lockage_at P first.place ∷ lockages_at P first.after =
        sym (lockages_at-line P c) ∙ ap (lockages_at P) first.walk ∙ map-append (lockage_at P) first.before (first.place ∷ first.after) in
        let lawful = subst (λ ls. AreLawfulFrom I c (chamber_at I c).stands (chamber_at I c).opens (map group_of ls) (map (λ l. l.start) ls)) line timely.lawful in
        Breaks-unlawful _ _ (lockage_at P first.place) first.place b first.broken
        (lawful-at (chamber_at I c).stands (chamber_at I c).opens before (lockage_at P first.place) (lockages_at P first.after) lawful)

    -- a walk that comes to the end without a break
    pub IsTimely-walked : (ps : List ℕ) → ps ≡ line_places P c → AreTimely I c (lockages_at P ps) → IsTimely I P c
    IsTimely-walked ps same timely =
        let line : lockages_at P ps ≡ line_of P c = ap (lockages_at P) same ∙ lockages_at-line P c in
        record { lawful = subst (λ ls. AreLawfulFrom I c (chamber_at I c).stands (chamber_at I c).opens (map group_of ls) (map (λ l. l.start) ls)) line timely.lawful }

    -- a step of the walk: the chamber's state after the places so far, and the lockage at the next
    module _ (ps : List ℕ) (i : ℕ) (within : i < length ps) (stand : Stand) (from : ℕ) (l : Lockage)
        (stands : stand ≡ stand_after_all (chamber_at I c).stands (lockages_at P (take i ps)))
        (done : from ≡ done_after_all I c (chamber_at I c).opens (lockages_at P (take i ps)))
        (here : l ≡ lockage_at P (get_or ps i 0)) where
      lockages_at-more : lockages_at P (take (i + 1) ps) ≡ lockages_at P (take i ps) ++ l ∷ []
      lockages_at-more =
          let next : i + 1 ≡ suc i = omega arith in
          ap (λ n. lockages_at P (take n ps)) next
          ∙ ap (lockages_at P) (take-suc ps i 0 within)
          ∙ map-append (lockage_at P) (take i ps) (get_or ps i 0 ∷ [])
          ∙ ap (λ l. lockages_at P (take i ps) ++ l ∷ []) (sym here)

      pub AreTimely-more : AreTimely I c (lockages_at P (take i ps)) → IsLawfulStart I c stand from (group_of l) l.start → AreTimely I c (lockages_at P (take (i + 1) ps))
      AreTimely-more timely lawful =
          let state = subst (λ stand. IsLawfulStart I c stand (done_after_all I c (chamber_at I c).opens (lockages_at P (take i ps))) (group_of l) l.start) stands
          (subst (λ from. IsLawfulStart I c stand from (group_of l) l.start) done lawful) in
          subst (AreTimely I c) (sym lockages_at-more) (record { lawful = lawful-more (chamber_at I c).stands (chamber_at I c).opens (lockages_at P (take i ps)) l timely.lawful state })

      pub stand_after-more : stand_after l.way ≡ stand_after_all (chamber_at I c).stands (lockages_at P (take (i + 1) ps))
      stand_after-more = sym (ap (stand_after_all (chamber_at I c).stands) lockages_at-more ∙ stand_after_all-more (chamber_at I c).stands (lockages_at P (take i ps)) l)

      pub done_after-more : l.start + duration_of I c l.ships ≡ done_after_all I c (chamber_at I c).opens (lockages_at P (take (i + 1) ps))
      done_after-more = sym (ap (done_after_all I c (chamber_at I c).opens) lockages_at-more ∙ done_after_all-more (chamber_at I c).opens (lockages_at P (take i ps)) l)

      -- the first break stands at the next place
      pub IsFirstBreak-at : (b : BrokenTime) → ps ≡ line_places P c → AreTimely I c (lockages_at P (take i ps)) → Breaks I c stand from l (get_or ps i 0) b → IsFirstBreak I P c b
      IsFirstBreak-at b same timely broken = record {
        before = take i ps;
        place = get_or ps i 0;
        after = drop (suc i) ps;
        walk = sym same ∙ sym (take-append-drop i ps) ∙ ap (λ rest. take i ps ++ rest) (drop-cons ps i 0 within);
        timely = timely;
        broken =
            subst (λ stand. Breaks I c stand (done_after_all I c (chamber_at I c).opens (lockages_at P (take i ps))) (lockage_at P (get_or ps i 0)) (get_or ps i 0) b) stands
            (subst (λ from. Breaks I c stand from (lockage_at P (get_or ps i 0)) (get_or ps i 0) b) done
            (subst (λ l. Breaks I c stand from l (get_or ps i 0) b) here broken));
      }
