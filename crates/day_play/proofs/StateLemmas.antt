-- Every state of a lawful day is sound.
use Rattle.std.proofs.Common.{◌≡◌, ◌≢◌, ℕ, ◌<◌, ◌≤◌, List, [], ◌∷◌, length, ◌⊎◌, inl, inr, refl, ap, sym, subst, arith}
use Rattle.lock_model.specs.Fleet.{chamber_at}
use Rattle.lock_model.specs.declared.instance.Instance.{Instance}
use Rattle.lock_model.specs.declared.plan.Plan.{Plan}
use Rattle.day_play.specs.Rising.{AreRising}
use Rattle.list_laws.specs.Among.{IsAmong}
use Rattle.day_play.specs.State.{Moored, Going, Under, State, chamber_after, state_after, opening, after, after_all}
use Rattle.day_play.specs.Lawful.{MayDo, MayEnter, IsLawful, AreLawfulBeats}
use Rattle.day_play.specs.declared.beat.Act.{Act}
use Rattle.day_play.specs.declared.beat.Act.TheVariants.{Turn, Moor, Go, Done}
use Rattle.day_play.specs.declared.beat.Beat.{Beat}
use Rattle.day_play.proofs.RunLemmas.{pick, idle_not_under, going_or_zero}
use Rattle.day_play.proofs.SoundLemmas.{IsSound, IsSoundState, sound-moor, sound-go, sound-done}

module _ (I : Instance) (P : Plan) where
  -- what each chamber holds and does where chamber c does an act
  module _ (s : State) (t c p : ℕ) (a : Act) where
    abbrev moored : ℕ → List Moored
    moored d = ((state_after I P t c p a s).chamber d).moored

    abbrev going : ℕ → Going
    going d = ((state_after I P t c p a s).chamber d).going

    -- where the act moors nothing, or begins and ends nothing
    keep_moored : (v g : List ℕ) → ((d : ℕ) → (s.chamber d).moored ≡ (chamber_after I P t c p a (s.chamber d)).moored) → (h : ℕ → Going)
        → IsSound I P (λ d. (s.chamber d).moored) h v g → IsSound I P moored h v g
    keep_moored v g same h sound =
        subst (λ m. IsSound I P m h v g) (λ i d. pick (λ x. (s.chamber d).moored ≡ x.moored) d c (chamber_after I P t c p a (s.chamber d)) (s.chamber d) (λ own. same d) (λ other. refl) i) sound

    keep_going : (v g : List ℕ) → ((d : ℕ) → (s.chamber d).going ≡ (chamber_after I P t c p a (s.chamber d)).going) → (m : ℕ → List Moored)
        → IsSound I P m (λ d. (s.chamber d).going) v g → IsSound I P m going v g
    keep_going v g same m sound =
        subst (λ h. IsSound I P m h v g) (λ i d. pick (λ x. (s.chamber d).going ≡ x.going) d c (chamber_after I P t c p a (s.chamber d)) (s.chamber d) (λ own. same d) (λ other. refl) i) sound

  module _ (rising : AreRising P) where
    act-sound : (t c p : ℕ) (a : Act) (s : State) → IsSoundState I P s → MayDo I P t c p a (s.chamber c) → MayEnter p a s → IsSoundState I P (state_after I P t c p a s)
    act-sound t c p Turn s sound may enter =
        keep_going s t c p Turn s.served s.gone (λ d. refl) (moored s t c p Turn) (keep_moored s t c p Turn s.served s.gone (λ d. refl) (λ d. (s.chamber d).going) sound)
    act-sound t c p (Moor i) s sound may enter =
        keep_going s t c p (Moor i) s.served s.gone (λ d. refl) (moored s t c p (Moor i))
        (sound-moor I P s sound t c p i rising may enter (moored s t c p (Moor i))
        (λ d m. pick (λ x. IsAmong x.moored m → ((d ≡ c) × (record { ship = i; lockage = p } ≡ m)) ⊎ IsAmong (s.chamber d).moored m) d c (chamber_after I P t c p (Moor i) (s.chamber d)) (s.chamber d)
        (λ own h. elim h [ inl e ↦ inl (own, e) | inr old ↦ inr old ])
        (λ other h. inr h))
        (λ d m old. pick (λ x. IsAmong x.moored m) d c (chamber_after I P t c p (Moor i) (s.chamber d)) (s.chamber d) (λ own. inr old) (λ other. old))
        (λ d. pick (λ x. length x.moored ≤ (chamber_at I d).most) d c (chamber_after I P t c p (Moor i) (s.chamber d)) (s.chamber d)
        (λ own. let room : length (s.chamber d).moored < (chamber_at I d).most = subst (λ d. length (s.chamber d).moored < (chamber_at I d).most) (sym own) may.room in omega (arith, room))
        (λ other. sound.room d)))
    act-sound t c p Go s sound may enter =
        keep_moored s t c p Go s.served s.gone (λ d. refl) (going s t c p Go)
        (sound-go I P s sound t c p rising may (going s t c p Go)
        (λ d q. pick (λ x. x.going ≡ Under q → ((d ≡ c) × (p ≡ q)) ⊎ ((s.chamber d).going ≡ Under q)) d c (chamber_after I P t c p Go (s.chamber d)) (s.chamber d)
        (λ own e. inl (own, ap going_or_zero e))
        (λ other e. inr e)))
    act-sound t c p Done s sound may enter =
        sound-done I P s sound t c p may (moored s t c p Done) (going s t c p Done)
        (λ d m. pick (λ x. IsAmong x.moored m → (d ≢ c) × IsAmong (s.chamber d).moored m) d c (chamber_after I P t c p Done (s.chamber d)) (s.chamber d) (λ own h. absurd h) (λ other h. (other, h)))
        (λ d m other old. pick (λ x. IsAmong x.moored m) d c (chamber_after I P t c p Done (s.chamber d)) (s.chamber d) (λ own. absurd (other own)) (λ apart. old))
        (λ d q. pick (λ x. x.going ≡ Under q → (d ≢ c) × ((s.chamber d).going ≡ Under q)) d c (chamber_after I P t c p Done (s.chamber d)) (s.chamber d) (λ own e. absurd (idle_not_under q e)) (λ other e. (other, e)))
        (λ d. pick (λ x. length x.moored ≤ (chamber_at I d).most) d c (chamber_after I P t c p Done (s.chamber d)) (s.chamber d) (λ own. omega arith) (λ other. sound.room d))

    -- a lawful beat leaves a sound state sound
    pub sound-after : (b : Beat) (s : State) → IsSoundState I P s → IsLawful I P b s → IsSoundState I P (after I P b s)
    sound-after b s sound lawful = act-sound b.minute b.chamber b.lockage b.act s sound lawful.here lawful.elsewhere

    pub sound-after_all : (bs : List Beat) (s : State) → IsSoundState I P s → AreLawfulBeats I P bs s → IsSoundState I P (after_all I P bs s)
    sound-after_all [] s sound lawful = sound
    sound-after_all (b ∷ bs) s sound lawful = sound-after_all bs (after I P b s) (sound-after b s sound lawful.0) lawful.1

  -- nothing has happened yet
  pub sound-opening : IsSoundState I P (opening I)
  sound-opening = record {
    of = λ c m h. absurd h;
    lies = λ c p k within h. absurd h;
    pairs = λ c p k j within inside other h. absurd h;
    alone = λ c d m n h. absurd h;
    room = λ c. omega arith;
    waits = λ c m h. absurd h;
    unserved = λ c m h. absurd h;
    under = λ c p e. absurd (idle_not_under p e);
    aboard = λ c p k e. absurd (idle_not_under p e);
    cleared = λ p h. absurd h;
    all = λ p i h. absurd h;
    from = λ i h. absurd h;
    only = λ p q i h. absurd h;
  }
