-- The lockages that go in a chamber, in the order of the day, have lawful starts.
use Rattle.std.proofs.Common.{◌≡◌, ℕ, ◌+◌, ◌<◌, ◌≤◌, List, [], ◌∷◌, length, map, cond, nat_eq, ◌⊎◌, inl, inr, refl, ap, sym, subst, ◌∙◌, arith}
use Rattle.std.proofs.lemmas.Bool.Decides.{eqb_tells}
use Rattle.std.proofs.lemmas.List.{get_or_default}
use Rattle.lock_model.specs.Fleet.{ship_at, chamber_at}
use Rattle.lock_model.specs.declared.chamber.Chamber.{Chamber}
use Rattle.lock_model.specs.declared.instance.Instance.{Instance}
use Rattle.lock_model.specs.declared.plan.Plan.{Plan}
use Rattle.lock_model.specs.declared.way.Stand.{Stand}
use Rattle.lock_model.specs.declared.way.Stand.TheVariants.{Low, High}
use Rattle.lock_model.specs.declared.way.Way.{Way}
use Rattle.lock_model.specs.declared.way.Way.TheVariants.{Up, Down}
use Rattle.lock_rules.specs.Lawful.{IsFree, HasTurn, HasTurned, IsLawfulStart, AreLawfulFrom, duration_of, stand_after, stand_before}
use Rattle.lock_rules.specs.Lines.{lockage_at, group_of}
use Rattle.chamber_times.specs.Walk.{lockages_at}
use Rattle.day_play.specs.Rising.{AreRising}
use Rattle.list_laws.specs.Among.{IsAmong}
use Rattle.day_play.specs.State.{Going, Idle, Under, ChamberState, State, other_side, chamber_after, state_after, after}
use Rattle.day_play.specs.Lawful.{MayTurn, MayGo, MayEnd, MayDo, AreLawfulBeats}
use Rattle.day_play.specs.declared.beat.Act.{Act}
use Rattle.day_play.specs.declared.beat.Act.TheVariants.{Turn, Moor, Go, Done}
use Rattle.day_play.specs.declared.beat.Beat.{Beat}
use Rattle.day_play.proofs.ChamberLemmas.{other_before}
use Rattle.day_play.proofs.RunLemmas.{pick}
use Rattle.day_play.proofs.SoundLemmas.{IsCleared, IsSoundState}
use Rattle.day_play.proofs.StateLemmas.{sound-after}
use Rattle.day_play.proofs.TimesLemmas.{IsRising}

-- a lockage that goes in chamber c, before some others there
abbrev pub go_first : ℕ → ℕ → ℕ → Act → List ℕ → List ℕ
go_first c d p Turn ps = ps
go_first c d p (Moor i) ps = ps
go_first c d p Go ps = cond (nat_eq c d) (p ∷ ps) ps
go_first c d p Done ps = ps

-- the lockages that go in chamber c
abbrev pub went : ℕ → List Beat → List ℕ
went c [] = []
went c (b ∷ bs) = go_first c b.chamber b.lockage b.act (went c bs)

abbrev IsLow : Stand → Type 0
IsLow Low = Unit {0}
IsLow High = ⊥

-- the chamber stands on the other side than before, and has had room for a turn, where the way needs one
pub turned-by : (c : Chamber) (stand side : Stand) (way : Way) (from free start : ℕ) → side ≡ stand_before way → (side ≡ stand) ⊎ HasTurn c from free → free ≤ start → HasTurned c stand way from start
turned-by c Low side Up from free start needed stood later = tt
turned-by c High side Down from free start needed stood later = tt
turned-by c Low side Down from free start needed (inl e) later = absurd (subst IsLow (sym e ∙ needed) tt)
turned-by c High side Up from free start needed (inl e) later = absurd (subst IsLow (sym needed ∙ e) tt)
turned-by c Low side Down from free start needed (inr turn) later = record { at = turn.at; after = turn.after; before = omega (arith, turn.before, later); free = turn.free }
turned-by c High side Up from free start needed (inr turn) later = record { at = turn.at; after = turn.after; before = omega (arith, turn.before, later); free = turn.free }

module _ (I : Instance) (P : Plan) (c : ℕ) where
  -- Since `from` the chamber was left standing so: it still does, or a turn has had room since; or it will when the lockage is over that is under way.
  abbrev pub IsReadyBy : Stand → ℕ → Going → Stand → ℕ → Type 0
  IsReadyBy stand from Idle side free = (from ≤ free) × ((side ≡ stand) ⊎ HasTurn (chamber_at I c) from free)
  IsReadyBy stand from (Under p) side free = (from ≤ free) × (other_side side ≡ stand)

  abbrev pub IsReady : Stand → ℕ → ChamberState → Type 0
  IsReady stand from x = IsReadyBy stand from x.going x.side x.free

  abbrev pub AreLawfulAt : Stand → ℕ → List ℕ → Type 0
  AreLawfulAt stand from ps = AreLawfulFrom I c stand from (map group_of (lockages_at P ps)) (map (λ l. l.start) (lockages_at P ps))

  module _ (t p : ℕ) (stand : Stand) (from : ℕ) (x : ChamberState) (ready : IsReady stand from x) where
    turn-ready : MayTurn I P t c x → IsReady stand from (chamber_after I P t c p Turn x)
    turn-ready may =
        let was : IsReadyBy stand from Idle x.side x.free = subst (λ g. IsReadyBy stand from g x.side x.free) may.still.idle ready in
        subst (λ g. IsReadyBy stand from g (other_side x.side) (t + (chamber_at I c).turn)) (sym may.still.idle) (
          omega (arith, was.0, may.later),
          inr (record { at = t; after = omega (arith, was.0, may.later); before = omega arith; free = may.free }),
        )

    go-ready : MayGo I P t c p x → IsReady (stand_after (lockage_at P p).way) ((lockage_at P p).start + duration_of I c (lockage_at P p).ships) (chamber_after I P t c p Go x)
    go-ready may = (omega (arith, may.start), ap other_side may.side ∙ other_before (lockage_at P p).way)

    done-ready : MayEnd I P t c p x → IsReady stand from (chamber_after I P t c p Done x)
    done-ready may =
        let was : IsReadyBy stand from (Under p) x.side x.free = subst (λ g. IsReadyBy stand from g x.side x.free) may.going ready in
        (was.0, inl was.1)

    go-start : MayGo I P t c p x → IsCleared I P c p → IsLawfulStart I c stand from (group_of (lockage_at P p)) (lockage_at P p).start
    go-start may cleared =
        let was : IsReadyBy stand from Idle x.side x.free = subst (λ g. IsReadyBy stand from g x.side x.free) may.idle ready in
        record {
          arrived = λ k d within. subst (λ s. (ship_at I s).arrival ≤ (lockage_at P p).start) (get_or_default (lockage_at P p).ships k 0 d within) (cleared.lies k within).arrived;
          later = omega (arith, was.0, may.later, may.start);
          turned = turned-by (chamber_at I c) stand x.side (lockage_at P p).way from x.free (lockage_at P p).start may.side was.1 (omega (arith, may.later, may.start));
          free = subst (λ t. IsFree (chamber_at I c).closures t (t + duration_of I c (lockage_at P p).ships)) (sym may.start) may.free;
        }

  -- what an act leaves of lawful starts
  went-next : (t d p : ℕ) (a : Act) (s : State) (stand : Stand) (from : ℕ) (ps : List ℕ) → IsSoundState I P (state_after I P t d p a s) → MayDo I P t d p a (s.chamber d) → IsReady stand from (s.chamber c)
      → ((after_stand : Stand) (after_from : ℕ) → IsReady after_stand after_from ((state_after I P t d p a s).chamber c) → AreLawfulAt after_stand after_from ps)
      → AreLawfulAt stand from (go_first c d p a ps)
  went-next t d p Turn s stand from ps sound may ready next =
      next stand from (pick (IsReady stand from) c d (chamber_after I P t d p Turn (s.chamber c)) (s.chamber c)
      (λ same. subst (λ d. MayTurn I P t d (s.chamber d) → IsReady stand from (chamber_after I P t d p Turn (s.chamber c))) same (turn-ready t p stand from (s.chamber c) ready) may)
      (λ other. ready))
  went-next t d p (Moor i) s stand from ps sound may ready next =
      next stand from (pick (IsReady stand from) c d (chamber_after I P t d p (Moor i) (s.chamber c)) (s.chamber c) (λ same. ready) (λ other. ready))
  went-next t d p Go s stand from ps sound may ready next =
      elim (eqb_tells c d) [
        | inl same ↦
            let here : MayGo I P t c p (s.chamber c) = subst (λ d. MayGo I P t d p (s.chamber d)) (sym same.1) may in
            let cleared : IsCleared I P c p = sound.under c p (pick (λ x. x.going ≡ Under p) c d (chamber_after I P t d p Go (s.chamber c)) (s.chamber c) (λ own. refl) (λ other. absurd (other same.1))) in
            subst (λ b. AreLawfulAt stand from (cond b (p ∷ ps) ps)) (sym same.0) (
              go-start t p stand from (s.chamber c) ready here cleared,
              next (stand_after (lockage_at P p).way) ((lockage_at P p).start + duration_of I c (lockage_at P p).ships)
                  (pick (IsReady (stand_after (lockage_at P p).way) ((lockage_at P p).start + duration_of I c (lockage_at P p).ships)) c d (chamber_after I P t d p Go (s.chamber c)) (s.chamber c)
                  (λ own. subst (λ d. IsReady (stand_after (lockage_at P p).way) ((lockage_at P p).start + duration_of I c (lockage_at P p).ships) (chamber_after I P t d p Go (s.chamber c))) own (go-ready t p stand from (s.chamber c) ready here))
                  (λ other. absurd (other same.1))),
            )
        | inr other ↦
            subst (λ b. AreLawfulAt stand from (cond b (p ∷ ps) ps)) (sym other.0)
            (next stand from (pick (IsReady stand from) c d (chamber_after I P t d p Go (s.chamber c)) (s.chamber c) (λ own. absurd (other.1 own)) (λ apart. ready)))
      ]
  went-next t d p Done s stand from ps sound may ready next =
      next stand from (pick (IsReady stand from) c d (chamber_after I P t d p Done (s.chamber c)) (s.chamber c)
      (λ same. done-ready t p stand from (s.chamber c) ready (subst (λ d. MayEnd I P t d p (s.chamber d)) (sym same) may))
      (λ other. ready))

  -- THE STARTS ARE LAWFUL, from where the chamber stands on.
  pub went-lawful : AreRising P → (bs : List Beat) (s : State) (stand : Stand) (from : ℕ) → IsSoundState I P s → AreLawfulBeats I P bs s → IsReady stand from (s.chamber c) → AreLawfulAt stand from (went c bs)
  went-lawful rising [] s stand from sound lawful ready = tt
  went-lawful rising (b ∷ bs) s stand from sound lawful ready =
      let next = sound-after I P rising b s sound lawful.0 in
      went-next b.minute b.chamber b.lockage b.act s stand from (went c bs) next lawful.0.here ready
      (λ after_stand after_from left. went-lawful rising bs (after I P b s) after_stand after_from next lawful.1 left)

  -- lawful starts come after the minute since which the chamber is free, and rise
  starts-later : (stand : Stand) (from : ℕ) (ps : List ℕ) (q : ℕ) → AreLawfulAt stand from ps → IsAmong ps q → from ≤ (lockage_at P q).start
  starts-later stand from [] q lawful h = absurd h
  starts-later stand from (p ∷ ps) q lawful (inl e) = subst (λ q. from ≤ (lockage_at P q).start) e lawful.0.later
  starts-later stand from (p ∷ ps) q lawful (inr h) =
      omega (arith, lawful.0.later, starts-later (stand_after (lockage_at P p).way) ((lockage_at P p).start + duration_of I c (lockage_at P p).ships) ps q lawful.1 h)

  pub starts-rise : 1 ≤ (chamber_at I c).pass → (stand : Stand) (from : ℕ) (ps : List ℕ) → AreLawfulAt stand from ps → IsRising (λ p. (lockage_at P p).start) ps
  starts-rise some stand from [] lawful = tt
  starts-rise some stand from (p ∷ ps) lawful =
      let end = (lockage_at P p).start + duration_of I c (lockage_at P p).ships in (
        λ q h. omega (arith, some, starts-later (stand_after (lockage_at P p).way) end ps q lawful.1 h),
        starts-rise some (stand_after (lockage_at P p).way) end ps lawful.1,
      )

  own-next : (t d p : ℕ) (a : Act) (s : State) (ps : List ℕ) (q : ℕ) → MayDo I P t d p a (s.chamber d) → (IsAmong ps q → (q < length P.lockages) × ((lockage_at P q).chamber ≡ c))
      → IsAmong (go_first c d p a ps) q → (q < length P.lockages) × ((lockage_at P q).chamber ≡ c)
  own-next t d p Turn s ps q may rest h = rest h
  own-next t d p (Moor i) s ps q may rest h = rest h
  own-next t d p Go s ps q may rest h =
      elim (eqb_tells c d) [
        | inl same ↦ elim (subst (λ b. IsAmong (cond b (p ∷ ps) ps) q) same.0 h) [
          | inl e ↦ subst (λ q. (q < length P.lockages) × ((lockage_at P q).chamber ≡ c)) e (may.lockage.known, may.lockage.chamber ∙ sym same.1)
          | inr later ↦ rest later
        ]
        | inr other ↦ rest (subst (λ b. IsAmong (cond b (p ∷ ps) ps) q) other.0 h)
      ]
  own-next t d p Done s ps q may rest h = rest h

  -- only lockages of the chamber go there
  pub went-from : (bs : List Beat) (s : State) (q : ℕ) → AreLawfulBeats I P bs s → IsAmong (went c bs) q → (q < length P.lockages) × ((lockage_at P q).chamber ≡ c)
  went-from [] s q lawful h = absurd h
  went-from (b ∷ bs) s q lawful h = own-next b.minute b.chamber b.lockage b.act s (went c bs) q lawful.0.here (went-from bs (after I P b s) q lawful.1) h
