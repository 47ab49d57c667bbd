-- Each lockage that is gone in the end goes once on a lawful day.
use Rattle.std.proofs.Common.{◌≡◌, ◌≢◌, ℕ, List, [], ◌∷◌, cond, nat_eq, eq-eqb, true, false, ◌⊎◌, inl, inr, refl, ap, sym, subst, ◌∙◌, arith}
use Rattle.std.proofs.lemmas.Bool.Decides.{eqb_tells}
use Rattle.lock_model.specs.declared.instance.Instance.{Instance}
use Rattle.lock_model.specs.declared.plan.Plan.{Plan}
use Rattle.lock_rules.specs.Lines.{lockage_at}
use Rattle.lock_rules.specs.Plan.{times_in}
use Rattle.lock_rules.proofs.TreeLemmas.{times_in-hit, times_in-miss}
use Rattle.day_play.specs.Rising.{AreRising}
use Rattle.list_laws.specs.Among.{IsAmong}
use Rattle.day_play.specs.State.{Under, State, chamber_after, state_after, after, after_all}
use Rattle.day_play.specs.Lawful.{MayGo, MayDo, AreLawfulBeats}
use Rattle.day_play.specs.declared.beat.Act.{Act}
use Rattle.day_play.specs.declared.beat.Act.TheVariants.{Turn, Moor, Go, Done}
use Rattle.day_play.specs.declared.beat.Beat.{Beat}
use Rattle.day_play.proofs.RunLemmas.{pick, idle_not_under, going_or_zero, gone-kept}
use Rattle.day_play.proofs.SoundLemmas.{IsSoundState, moored_at}
use Rattle.day_play.proofs.StateLemmas.{sound-after}
use Rattle.day_play.proofs.WentLemmas.{go_first, went}

-- the act of lockage q isn't the Go of p
abbrev IsOther : Act → ℕ → ℕ → Type 0
IsOther Turn q p = Unit {0}
IsOther (Moor i) q p = Unit {0}
IsOther Go q p = q ≢ p
IsOther Done q p = Unit {0}

module _ (I : Instance) (P : Plan) where
  -- lockage p is gone or under way
  abbrev pub HasGone : State → ℕ → Type 0
  HasGone s p = IsAmong s.gone p ⊎ ((s.chamber (lockage_at P p).chamber).going ≡ Under p)

  module _ (t d q : ℕ) (s : State) where
    -- such a lockage can't go
    not-again : IsSoundState I P s → MayGo I P t d q (s.chamber d) → HasGone s q → ⊥
    not-again sound may (inl gone) = sound.waits d (moored_at I P q 0) (may.all 0 (omega (arith, may.some))) gone
    not-again sound may (inr under) = idle_not_under q (sym may.idle ∙ subst (λ c. (s.chamber c).going ≡ Under q) may.lockage.chamber under)

    -- it stays so
    gone-next : (a : Act) (p : ℕ) → MayDo I P t d q a (s.chamber d) → HasGone s p → HasGone (state_after I P t d q a s) p
    gone-next a p may (inl gone) = inl (gone-kept I P q p a s.gone gone)
    gone-next Turn p may (inr under) =
        let c = (lockage_at P p).chamber in
        inr (pick (λ x. x.going ≡ Under p) c d (chamber_after I P t d q Turn (s.chamber c)) (s.chamber c) (λ own. under) (λ other. under))
    gone-next (Moor i) p may (inr under) =
        let c = (lockage_at P p).chamber in
        inr (pick (λ x. x.going ≡ Under p) c d (chamber_after I P t d q (Moor i) (s.chamber c)) (s.chamber c) (λ own. under) (λ other. under))
    gone-next Go p may (inr under) =
        let c = (lockage_at P p).chamber in
        inr (pick (λ x. x.going ≡ Under p) c d (chamber_after I P t d q Go (s.chamber c)) (s.chamber c)
        (λ own. absurd (idle_not_under p (sym may.idle ∙ subst (λ c. (s.chamber c).going ≡ Under p) own under)))
        (λ other. under))
    gone-next Done p may (inr under) =
        let c = (lockage_at P p).chamber in
        pick (λ x. IsAmong (q ∷ s.gone) p ⊎ (x.going ≡ Under p)) c d (chamber_after I P t d q Done (s.chamber c)) (s.chamber c)
        (λ own. inl (inl (ap going_or_zero (sym may.going ∙ subst (λ c. (s.chamber c).going ≡ Under p) own under))))
        (λ other. inr under)

    -- no act but its own Go makes it so
    gone-before : (a : Act) (p : ℕ) → MayDo I P t d q a (s.chamber d) → IsOther a q p → HasGone (state_after I P t d q a s) p → HasGone s p
    gone-before Turn p may apart (inl gone) = inl gone
    gone-before Turn p may apart (inr under) =
        let c = (lockage_at P p).chamber in
        inr (pick (λ x. x.going ≡ Under p → (s.chamber c).going ≡ Under p) c d (chamber_after I P t d q Turn (s.chamber c)) (s.chamber c) (λ own e. e) (λ other e. e) under)
    gone-before (Moor i) p may apart (inl gone) = inl gone
    gone-before (Moor i) p may apart (inr under) =
        let c = (lockage_at P p).chamber in
        inr (pick (λ x. x.going ≡ Under p → (s.chamber c).going ≡ Under p) c d (chamber_after I P t d q (Moor i) (s.chamber c)) (s.chamber c) (λ own e. e) (λ other e. e) under)
    gone-before Go p may apart (inl gone) = inl gone
    gone-before Go p may apart (inr under) =
        let c = (lockage_at P p).chamber in
        inr (pick (λ x. x.going ≡ Under p → (s.chamber c).going ≡ Under p) c d (chamber_after I P t d q Go (s.chamber c)) (s.chamber c)
        (λ own e. absurd (apart (ap going_or_zero e)))
        (λ other e. e)
        under)
    gone-before Done p may apart (inl (inl e)) = subst (HasGone s) e (inr (subst (λ c. (s.chamber c).going ≡ Under q) (sym may.lockage.chamber) may.going))
    gone-before Done p may apart (inl (inr old)) = inl old
    gone-before Done p may apart (inr under) =
        let c = (lockage_at P p).chamber in
        inr (pick (λ x. x.going ≡ Under p → (s.chamber c).going ≡ Under p) c d (chamber_after I P t d q Done (s.chamber c)) (s.chamber c)
        (λ own e. absurd (idle_not_under p e))
        (λ other e. e)
        under)

    never-next : (a : Act) (c p : ℕ) (ps : List ℕ) → IsSoundState I P s → MayDo I P t d q a (s.chamber d) → HasGone s p → times_in ps p ≡ 0 → times_in (go_first c d q a ps) p ≡ 0
    never-next Turn c p ps sound may gone rest = rest
    never-next (Moor i) c p ps sound may gone rest = rest
    never-next Go c p ps sound may gone rest =
        elim (nat_eq c d) as (λ b. times_in (cond b (q ∷ ps) ps) p ≡ 0) [
          | true ↦ elim (eqb_tells q p) [
            | inl same ↦ absurd (not-again sound may (subst (HasGone s) (sym same.1) gone))
            | inr other ↦ omega (arith, times_in-miss p q ps other.0, rest)
          ]
          | false ↦ rest
        ]
    never-next Done c p ps sound may gone rest = rest

    once-next : (a : Act) (p : ℕ) (ps : List ℕ) → IsSoundState I P s → MayDo I P t d q a (s.chamber d) → (HasGone s p → ⊥)
        → (HasGone (state_after I P t d q a s) p → times_in ps p ≡ 0)
        → ((HasGone (state_after I P t d q a s) p → ⊥) → times_in ps p ≡ 1)
        → times_in (go_first (lockage_at P p).chamber d q a ps) p ≡ 1
    once-next Turn p ps sound may ahead never once = once (λ h. ahead (gone-before Turn p may tt h))
    once-next (Moor i) p ps sound may ahead never once = once (λ h. ahead (gone-before (Moor i) p may tt h))
    once-next Go p ps sound may ahead never once =
        let c = (lockage_at P p).chamber in
        elim (eqb_tells q p) [
          | inl same ↦
              let here : c ≡ d = ap (λ p. (lockage_at P p).chamber) (sym same.1) ∙ may.lockage.chamber in
              let none : times_in ps p ≡ 0 = never (inr (pick (λ x. x.going ≡ Under p) c d (chamber_after I P t d q Go (s.chamber c)) (s.chamber c) (λ own. ap Under same.1) (λ other. absurd (other here)))) in
              subst (λ b. times_in (cond b (q ∷ ps) ps) p ≡ 1) (sym (eq-eqb c d here)) (omega (arith, times_in-hit p q ps same.0, none))
          | inr other ↦
              let one : times_in ps p ≡ 1 = once (λ h. ahead (gone-before Go p may other.1 h)) in
              elim (nat_eq c d) as (λ b. times_in (cond b (q ∷ ps) ps) p ≡ 1) [
                | true ↦ omega (arith, times_in-miss p q ps other.0, one)
                | false ↦ one
              ]
        ]
    once-next Done p ps sound may ahead never once = once (λ h. ahead (gone-before Done p may tt h))

  module _ (rising : AreRising P) where
    -- a lockage that is gone or under way doesn't go again
    went-never : (bs : List Beat) (s : State) (c p : ℕ) → IsSoundState I P s → AreLawfulBeats I P bs s → HasGone s p → times_in (went c bs) p ≡ 0
    went-never [] s c p sound lawful gone = refl
    went-never (b ∷ bs) s c p sound lawful gone =
        never-next b.minute b.chamber b.lockage s b.act c p (went c bs) sound lawful.0.here gone
        (went-never bs (after I P b s) c p (sound-after I P rising b s sound lawful.0) lawful.1 (gone-next b.minute b.chamber b.lockage s b.act p lawful.0.here gone))

    -- A LOCKAGE GOES ONCE where it is gone in the end and wasn't at first.
    pub went-once : (bs : List Beat) (s : State) (p : ℕ) → IsSoundState I P s → AreLawfulBeats I P bs s → (HasGone s p → ⊥) → IsAmong (after_all I P bs s).gone p → times_in (went (lockage_at P p).chamber bs) p ≡ 1
    went-once [] s p sound lawful ahead gone = absurd (ahead (inl gone))
    went-once (b ∷ bs) s p sound lawful ahead gone =
        let next = sound-after I P rising b s sound lawful.0 in
        let c = (lockage_at P p).chamber in
        once-next b.minute b.chamber b.lockage s b.act p (went c bs) sound lawful.0.here ahead
        (went-never bs (after I P b s) c p next lawful.1)
        (λ still. went-once bs (after I P b s) p next lawful.1 still gone)
