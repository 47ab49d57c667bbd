-- What holds of every state of a lawful day, as each act leaves it.
use Rattle.std.proofs.Common.{◌≡◌, ◌≢◌, ℕ, ◌<◌, ◌≤◌, List, [], ◌∷◌, ◌++◌, length, map, ◌⊎◌, inl, inr, refl, ap, sym, subst, ◌∙◌, arith}
use Rattle.std.proofs.lemmas.List.{length-map}
use Rattle.lock_model.specs.Fleet.{ship_at, chamber_at}
use Rattle.lock_model.specs.Deck.{Deck, size_at}
use Rattle.lock_model.specs.Fitting.{deck_of}
use Rattle.lock_model.specs.Placement.{IsInside, AreApart, IsBerthed, spot_at}
use Rattle.lock_model.specs.Cargo.{GoTogether}
use Rattle.lock_model.specs.declared.instance.Instance.{Instance}
use Rattle.lock_model.specs.declared.plan.Plan.{Plan}
use Rattle.lock_rules.proofs.AmongLemmas.{among-append}
use Rattle.lock_rules.specs.Lines.{lockage_at}
use Rattle.lock_rules.proofs.TreeLemmas.{IsAmong-left, IsAmong-right}
use Rattle.day_play.specs.Rising.{AreRising}
use Rattle.list_laws.specs.Among.{IsAmong}
use Rattle.day_play.specs.State.{Moored, Going, Under, State}
use Rattle.day_play.specs.Lawful.{ship_of, IsOf, MayMoor, MayGo, MayEnd, IsWaiting}
use Rattle.day_play.proofs.ChamberLemmas.{apart-swap, together-swap}
use Rattle.day_play.proofs.RunLemmas.{IsAmong-place}
use Rattle.day_play.proofs.TimesLemmas.{increasing-place, length-among}

module _ (I : Instance) (P : Plan) where
  -- the deck of lockage p in chamber c
  abbrev pub deck : ℕ → ℕ → Deck
  deck c p = deck_of I c (lockage_at P p).ships

  -- the ship at place k of lockage p, moored for it
  abbrev pub moored_at : ℕ → ℕ → Moored
  moored_at p k = record { ship = ship_of (lockage_at P p) k; lockage = p }

  -- the ship at place k of lockage p has come in time, goes its way and lies legally in chamber c
  pub record LiesWell (c p k : ℕ) : Type 0 where
    pub arrived : (ship_at I (ship_of (lockage_at P p) k)).arrival ≤ (lockage_at P p).start
    pub way : (ship_at I (ship_of (lockage_at P p) k)).way ≡ (lockage_at P p).way
    pub inside : IsInside (deck c p) (size_at (deck c p) k) (spot_at (lockage_at P p).spots k)
    pub berthed : IsBerthed (deck c p) (lockage_at P p).spots k

  -- the ships at places k and j of lockage p may share the chamber
  pub record LieTogether (c p k j : ℕ) : Type 0 where
    pub apart : AreApart (deck c p) (size_at (deck c p) k) (spot_at (lockage_at P p).spots k) (size_at (deck c p) j) (spot_at (lockage_at P p).spots j)
    pub clear : GoTogether (size_at (deck c p) k) (size_at (deck c p) j)

  -- lockage p of chamber c may go as it is
  pub record IsCleared (c p : ℕ) : Type 0 where
    pub lockage : IsOf I P c p
    pub some : 1 ≤ length (lockage_at P p).ships
    pub room : length (lockage_at P p).ships ≤ (chamber_at I c).most
    pub lies : (k : ℕ) → k < length (lockage_at P p).ships → LiesWell c p k
    pub pairs : (k j : ℕ) → k < length (lockage_at P p).ships → j < length (lockage_at P p).ships → j ≢ k → LieTogether c p k j

  -- a lockage that is gone has this ship
  pub record IsServed (gone : List ℕ) (i : ℕ) : Type 0 where
    pub by : ℕ
    pub over : IsAmong gone by
    pub own : IsAmong (lockage_at P by).ships i

  -- WHAT HOLDS ON A LAWFUL DAY of what is moored and under way in the chambers, the ships served and the lockages gone.
  pub record IsSound (moored : ℕ → List Moored) (going : ℕ → Going) (served gone : List ℕ) : Type 0 where
    pub of : (c : ℕ) (m : Moored) → IsAmong (moored c) m → IsOf I P c m.lockage
    pub lies : (c p k : ℕ) → k < length (lockage_at P p).ships → IsAmong (moored c) (moored_at p k) → LiesWell c p k
    pub pairs : (c p k j : ℕ) → k < length (lockage_at P p).ships → j < length (lockage_at P p).ships → j ≢ k
        → IsAmong (moored c) (moored_at p k) → IsAmong (moored c) (moored_at p j) → LieTogether c p k j
    pub alone : (c d : ℕ) (m n : Moored) → IsAmong (moored c) m → IsAmong (moored d) n → m.ship ≡ n.ship → m.lockage ≡ n.lockage
    pub room : (c : ℕ) → length (moored c) ≤ (chamber_at I c).most
    pub waits : (c : ℕ) (m : Moored) → IsAmong (moored c) m → IsAmong gone m.lockage → ⊥
    pub unserved : (c : ℕ) (m : Moored) → IsAmong (moored c) m → IsAmong served m.ship → ⊥
    pub under : (c p : ℕ) → going c ≡ Under p → IsCleared c p
    pub aboard : (c p k : ℕ) → going c ≡ Under p → k < length (lockage_at P p).ships → IsAmong (moored c) (moored_at p k)
    pub cleared : (p : ℕ) → IsAmong gone p → IsCleared (lockage_at P p).chamber p
    pub all : (p i : ℕ) → IsAmong gone p → IsAmong (lockage_at P p).ships i → IsAmong served i
    pub from : (i : ℕ) → IsAmong served i → IsServed gone i
    pub only : (p q i : ℕ) → IsAmong gone p → IsAmong gone q → IsAmong (lockage_at P p).ships i → IsAmong (lockage_at P q).ships i → p ≡ q

  abbrev pub IsSoundState : State → Type 0
  IsSoundState s = IsSound (λ c. (s.chamber c).moored) (λ c. (s.chamber c).going) s.served s.gone

  module _ (s : State) (sound : IsSoundState s) (t c p : ℕ) where
    -- one ship more is moored
    module _ (i : ℕ) (rising : AreRising P) (may : MayMoor I P t c p i (s.chamber c)) (waiting : IsWaiting p i s) (moored : ℕ → List Moored)
        (come : (d : ℕ) (m : Moored) → IsAmong (moored d) m → ((d ≡ c) × (record { ship = i; lockage = p } ≡ m)) ⊎ IsAmong (s.chamber d).moored m)
        (kept : (d : ℕ) (m : Moored) → IsAmong (s.chamber d).moored m → IsAmong (moored d) m)
        (room : (d : ℕ) → length (moored d) ≤ (chamber_at I d).most) where
      -- the new one lies at its own place of the deck
      place : (k : ℕ) → k < length (lockage_at P p).ships → i ≡ ship_of (lockage_at P p) k → may.place ≡ k
      place k within same = increasing-place (lockage_at P p).ships may.place k (rising.each p may.lockage.known) may.within within (may.ship ∙ same)

      moor-of : (d : ℕ) (m : Moored) → IsAmong (moored d) m → IsOf I P d m.lockage
      moor-of d m h =
          elim (come d m h) [
            | inl here ↦ subst (λ (m : Moored). IsOf I P d m.lockage) here.1 (subst (λ d. IsOf I P d p) (sym here.0) may.lockage)
            | inr old ↦ sound.of d m old
          ]

      new-lies : LiesWell c p may.place
      new-lies = record {
        arrived = omega (arith, may.arrived, may.start, ap (λ i. (ship_at I i).arrival) may.ship);
        way = ap (λ i. (ship_at I i).way) may.ship ∙ may.way;
        inside = may.lies.inside;
        berthed = may.lies.berthed;
      }

      at-place : (d q k : ℕ) → d ≡ c → p ≡ q → k < length (lockage_at P q).ships → i ≡ ship_of (lockage_at P q) k → LiesWell d q k
      at-place d q k own e =
          subst (λ q. k < length (lockage_at P q).ships → i ≡ ship_of (lockage_at P q) k → LiesWell d q k) e
          (λ within same. subst (λ d. LiesWell d p k) (sym own) (subst (LiesWell c p) (place k within same) new-lies))

      moor-lies : (d q k : ℕ) → k < length (lockage_at P q).ships → IsAmong (moored d) (moored_at q k) → LiesWell d q k
      moor-lies d q k within h =
          elim (come d (moored_at q k) h) [
            | inl here ↦ at-place d q k here.0 (ap (λ (m : Moored). m.lockage) here.1) within (ap (λ (m : Moored). m.ship) here.1)
            | inr old ↦ sound.lies d q k within old
          ]

      new-pairs : (j : ℕ) → j < length (lockage_at P p).ships → j ≢ may.place → IsAmong (s.chamber c).moored (moored_at p j) → LieTogether c p may.place j
      new-pairs j inside other old = record { apart = may.lies.apart j inside other old; clear = may.lies.clear j inside other old }

      with-place : (d q k j : ℕ) → d ≡ c → p ≡ q → k < length (lockage_at P q).ships → j < length (lockage_at P q).ships → j ≢ k → i ≡ ship_of (lockage_at P q) k
          → IsAmong (s.chamber d).moored (moored_at q j) → LieTogether d q k j
      with-place d q k j own e =
          subst (λ q. k < length (lockage_at P q).ships → j < length (lockage_at P q).ships → j ≢ k → i ≡ ship_of (lockage_at P q) k → IsAmong (s.chamber d).moored (moored_at q j) → LieTogether d q k j) e
          (λ within inside other same. subst (λ d. IsAmong (s.chamber d).moored (moored_at p j) → LieTogether d p k j) (sym own)
          (subst (λ k. j ≢ k → IsAmong (s.chamber c).moored (moored_at p j) → LieTogether c p k j) (place k within same) (new-pairs j inside) other))

      swapped : (d q k j : ℕ) → LieTogether d q k j → LieTogether d q j k
      swapped d q k j both = record {
        apart = apart-swap (deck d q) (size_at (deck d q) k) (spot_at (lockage_at P q).spots k) (size_at (deck d q) j) (spot_at (lockage_at P q).spots j) both.apart;
        clear = together-swap (size_at (deck d q) k) (size_at (deck d q) j) both.clear;
      }

      same-place : (q k j : ℕ) → p ≡ q → k < length (lockage_at P q).ships → j < length (lockage_at P q).ships → i ≡ ship_of (lockage_at P q) k → i ≡ ship_of (lockage_at P q) j → k ≡ j
      same-place q k j e =
          subst (λ q. k < length (lockage_at P q).ships → j < length (lockage_at P q).ships → i ≡ ship_of (lockage_at P q) k → i ≡ ship_of (lockage_at P q) j → k ≡ j) e
          (λ within inside first second. sym (place k within first) ∙ place j inside second)

      moor-pairs : (d q k j : ℕ) → k < length (lockage_at P q).ships → j < length (lockage_at P q).ships → j ≢ k
          → IsAmong (moored d) (moored_at q k) → IsAmong (moored d) (moored_at q j) → LieTogether d q k j
      moor-pairs d q k j within inside other hk hj =
          elim (come d (moored_at q k) hk) [
            | inl here ↦ elim (come d (moored_at q j) hj) [
              | inl there ↦ absurd (other (sym (same-place q k j (ap (λ (m : Moored). m.lockage) here.1) within inside (ap (λ (m : Moored). m.ship) here.1) (ap (λ (m : Moored). m.ship) there.1))))
              | inr old ↦ with-place d q k j here.0 (ap (λ (m : Moored). m.lockage) here.1) within inside other (ap (λ (m : Moored). m.ship) here.1) old
            ]
            | inr before ↦ elim (come d (moored_at q j) hj) [
              | inl there ↦ swapped d q j k (with-place d q j k there.0 (ap (λ (m : Moored). m.lockage) there.1) inside within (λ e. other (sym e)) (ap (λ (m : Moored). m.ship) there.1) before)
              | inr old ↦ sound.pairs d q k j within inside other before old
            ]
          ]

      apart-ship : (d : ℕ) (m : Moored) → IsAmong (s.chamber d).moored m → i ≡ m.ship → ⊥
      apart-ship d m old same = waiting.unmoored d m.lockage (subst (λ x. IsAmong (s.chamber d).moored (record { ship = x; lockage = m.lockage })) (sym same) old)

      moor-alone : (d e : ℕ) (m n : Moored) → IsAmong (moored d) m → IsAmong (moored e) n → m.ship ≡ n.ship → m.lockage ≡ n.lockage
      moor-alone d e m n hm hn same =
          elim (come d m hm) [
            | inl here ↦ elim (come e n hn) [
              | inl there ↦ ap (λ (m : Moored). m.lockage) (sym here.1 ∙ there.1)
              | inr old ↦ absurd (apart-ship e n old (ap (λ (m : Moored). m.ship) here.1 ∙ same))
            ]
            | inr before ↦ elim (come e n hn) [
              | inl there ↦ absurd (apart-ship d m before (ap (λ (m : Moored). m.ship) there.1 ∙ sym same))
              | inr old ↦ sound.alone d e m n before old same
            ]
          ]

      pub sound-moor : IsSound moored (λ d. (s.chamber d).going) s.served s.gone
      sound-moor = record {
        of = moor-of;
        lies = moor-lies;
        pairs = moor-pairs;
        alone = moor-alone;
        room = room;
        waits = λ d m h g. elim (come d m h) [
          | inl here ↦ waiting.waits (subst (λ (m : Moored). IsAmong s.gone m.lockage) (sym here.1) g)
          | inr old ↦ sound.waits d m old g
        ];
        unserved = λ d m h v. elim (come d m h) [
          | inl here ↦ waiting.unserved (subst (λ (m : Moored). IsAmong s.served m.ship) (sym here.1) v)
          | inr old ↦ sound.unserved d m old v
        ];
        under = sound.under;
        aboard = λ d q k going within. kept d (moored_at q k) (sound.aboard d q k going within);
        cleared = sound.cleared;
        all = sound.all;
        from = sound.from;
        only = sound.only;
      }

    -- a lockage begins
    module _ (rising : AreRising P) (may : MayGo I P t c p (s.chamber c)) (going : ℕ → Going)
        (come : (d q : ℕ) → going d ≡ Under q → ((d ≡ c) × (p ≡ q)) ⊎ ((s.chamber d).going ≡ Under q)) where
      among-ships : (ms : List Moored) (m : Moored) → IsAmong ms m → IsAmong (map (λ (m : Moored). m.ship) ms) m.ship
      among-ships [] m h = absurd h
      among-ships (n ∷ ms) m (inl e) = inl (ap (λ (m : Moored). m.ship) e)
      among-ships (n ∷ ms) m (inr h) = inr (among-ships ms m h)

      -- as many ships are moored as the lockage has
      all-moored : (x : ℕ) → IsAmong (lockage_at P p).ships x → IsAmong (map (λ (m : Moored). m.ship) (s.chamber c).moored) x
      all-moored x h =
          let at = IsAmong-place (lockage_at P p).ships x h in
          subst (IsAmong (map (λ (m : Moored). m.ship) (s.chamber c).moored)) at.2 (among-ships (s.chamber c).moored (moored_at p at.0) (may.all at.0 at.1))

      new-cleared : IsCleared c p
      new-cleared = record {
        lockage = may.lockage;
        some = may.some;
        room = omega (
          arith,
          sound.room c,
          length-among (lockage_at P p).ships (map (λ (m : Moored). m.ship) (s.chamber c).moored) (rising.each p may.lockage.known) all-moored,
          length-map (s.chamber c).moored (λ (m : Moored). m.ship),
        );
        lies = λ k within. sound.lies c p k within (may.all k within);
        pairs = λ k j within inside other. sound.pairs c p k j within inside other (may.all k within) (may.all j inside);
      }

      pub sound-go : IsSound (λ d. (s.chamber d).moored) going s.served s.gone
      sound-go = record {
        of = sound.of;
        lies = sound.lies;
        pairs = sound.pairs;
        alone = sound.alone;
        room = sound.room;
        waits = sound.waits;
        unserved = sound.unserved;
        under = λ d q e. elim (come d q e) [
          | inl here ↦ subst (IsCleared d) here.1 (subst (λ d. IsCleared d p) (sym here.0) new-cleared)
          | inr old ↦ sound.under d q old
        ];
        aboard = λ d q k e within. elim (come d q e) [
          | inl here ↦ new-aboard d q k here.0 here.1 within
          | inr old ↦ sound.aboard d q k old within
        ];
        cleared = sound.cleared;
        all = sound.all;
        from = sound.from;
        only = sound.only;
      }
        where
          new-aboard : (d q k : ℕ) → d ≡ c → p ≡ q → k < length (lockage_at P q).ships → IsAmong (s.chamber d).moored (moored_at q k)
          new-aboard d q k own e =
              subst (λ q. k < length (lockage_at P q).ships → IsAmong (s.chamber d).moored (moored_at q k)) e
              (λ within. subst (λ d. IsAmong (s.chamber d).moored (moored_at p k)) (sym own) (may.all k within))

    -- a lockage is over
    module _ (may : MayEnd I P t c p (s.chamber c)) (moored : ℕ → List Moored) (going : ℕ → Going)
        (come : (d : ℕ) (m : Moored) → IsAmong (moored d) m → (d ≢ c) × IsAmong (s.chamber d).moored m)
        (kept : (d : ℕ) (m : Moored) → d ≢ c → IsAmong (s.chamber d).moored m → IsAmong (moored d) m)
        (still : (d q : ℕ) → going d ≡ Under q → (d ≢ c) × ((s.chamber d).going ≡ Under q))
        (room : (d : ℕ) → length (moored d) ≤ (chamber_at I d).most) where
      -- what is moored in another chamber is of another lockage
      elsewhere : (d : ℕ) (m : Moored) → IsAmong (moored d) m → p ≡ m.lockage → ⊥
      elsewhere d m h e =
          let was = come d m h in
          was.0 (sym (sound.of d m was.1).chamber ∙ ap (λ q. (lockage_at P q).chamber) (sym e) ∙ may.lockage.chamber)

      -- a ship of the lockage is moored in its chamber
      own-moored : (i : ℕ) → IsAmong (lockage_at P p).ships i → IsAmong (s.chamber c).moored (record { ship = i; lockage = p })
      own-moored i h =
          let at = IsAmong-place (lockage_at P p).ships i h in
          subst (λ x. IsAmong (s.chamber c).moored (record { ship = x; lockage = p })) at.2 (sound.aboard c p at.0 may.going at.1)

      end-unserved : (d : ℕ) (m : Moored) → IsAmong (moored d) m → IsAmong ((lockage_at P p).ships ++ s.served) m.ship → ⊥
      end-unserved d m h v =
          elim (among-append (lockage_at P p).ships s.served m.ship v) [
            | inl own ↦ elsewhere d m h (sound.alone c d (record { ship = m.ship; lockage = p }) m (own-moored m.ship own) (come d m h).1 refl)
            | inr old ↦ sound.unserved d m (come d m h).1 old
          ]

      end-cleared : (q : ℕ) → IsAmong (p ∷ s.gone) q → IsCleared (lockage_at P q).chamber q
      end-cleared q (inl e) = subst (λ q. IsCleared (lockage_at P q).chamber q) e (subst (λ c. IsCleared c p) (sym may.lockage.chamber) (sound.under c p may.going))
      end-cleared q (inr old) = sound.cleared q old

      end-served : (q i : ℕ) → IsAmong (p ∷ s.gone) q → IsAmong (lockage_at P q).ships i → IsAmong ((lockage_at P p).ships ++ s.served) i
      end-served q i (inl e) own = IsAmong-left (lockage_at P p).ships s.served i (subst (λ q. IsAmong (lockage_at P q).ships i) (sym e) own)
      end-served q i (inr old) own = IsAmong-right (lockage_at P p).ships s.served i (sound.all q i old own)

      end-from : (i : ℕ) → IsAmong ((lockage_at P p).ships ++ s.served) i → IsServed (p ∷ s.gone) i
      end-from i h =
          elim (among-append (lockage_at P p).ships s.served i h) [
            | inl own ↦ record { by = p; over = inl refl; own = own }
            | inr old ↦ (let was = sound.from i old in record { by = was.by; over = inr was.over; own = was.own })
          ]

      -- no ship of the lockage was served before
      end-new : (q i : ℕ) → IsAmong s.gone q → IsAmong (lockage_at P p).ships i → IsAmong (lockage_at P q).ships i → ⊥
      end-new q i old own its = sound.unserved c (record { ship = i; lockage = p }) (own-moored i own) (sound.all q i old its)

      end-only : (q r i : ℕ) → IsAmong (p ∷ s.gone) q → IsAmong (p ∷ s.gone) r → IsAmong (lockage_at P q).ships i → IsAmong (lockage_at P r).ships i → q ≡ r
      end-only q r i (inl e) (inl f) first second = sym e ∙ f
      end-only q r i (inl e) (inr old) first second = absurd (end-new r i old (subst (λ q. IsAmong (lockage_at P q).ships i) (sym e) first) second)
      end-only q r i (inr old) (inl f) first second = absurd (end-new q i old (subst (λ q. IsAmong (lockage_at P q).ships i) (sym f) second) first)
      end-only q r i (inr old) (inr before) first second = sound.only q r i old before first second

      pub sound-done : IsSound moored going ((lockage_at P p).ships ++ s.served) (p ∷ s.gone)
      sound-done = record {
        of = λ d m h. sound.of d m (come d m h).1;
        lies = λ d q k within h. sound.lies d q k within (come d (moored_at q k) h).1;
        pairs = λ d q k j within inside other hk hj. sound.pairs d q k j within inside other (come d (moored_at q k) hk).1 (come d (moored_at q j) hj).1;
        alone = λ d e m n hm hn same. sound.alone d e m n (come d m hm).1 (come e n hn).1 same;
        room = room;
        waits = λ d m h g. elim g [
          | inl e ↦ elsewhere d m h e
          | inr old ↦ sound.waits d m (come d m h).1 old
        ];
        unserved = end-unserved;
        under = λ d q e. sound.under d q (still d q e).1;
        aboard = λ d q k e within. kept d (moored_at q k) (still d q e).0 (sound.aboard d q k (still d q e).1 within);
        cleared = end-cleared;
        all = end-served;
        from = end-from;
        only = end-only;
      }
