-- When a beat is lawful, and when a list of beats is a lawful day of a plan.
use Rattle.std.specs.Prelude.{ℕ, ◌≡◌, ◌≢◌, ◌+◌, ◌≤◌, ◌<◌, List, [], ◌∷◌, length, All, slice_index_or, ⊤}
use Rattle.lock_model.specs.Fleet.{ship_at, chamber_at}
use Rattle.lock_model.specs.Fitting.{deck_of}
use Rattle.lock_model.specs.Deck.{Deck, size_at}
use Rattle.lock_model.specs.Placement.{IsInside, AreApart, IsBerthed, spot_at}
use Rattle.lock_model.specs.Cargo.{GoTogether}
use Rattle.lock_model.specs.declared.instance.Instance.{Instance}
use Rattle.lock_model.specs.declared.placement.Moor.TheVariants.{Ship}
use Rattle.lock_model.specs.declared.plan.Lockage.{Lockage}
use Rattle.lock_model.specs.declared.plan.Plan.{Plan}
use Rattle.lock_rules.specs.Lawful.{IsFree, duration_of, stand_before}
use Rattle.lock_rules.specs.Lines.{lockage_at}
use Rattle.day_play.specs.Order.{IsOrdered, minute_of}
use Rattle.list_laws.specs.Among.{IsAmong}
use Rattle.day_play.specs.State.{Moored, Idle, Under, ChamberState, State, opening, after, after_all}
use Rattle.day_play.specs.declared.beat.Act.{Act}
use Rattle.day_play.specs.declared.beat.Act.TheVariants.{Turn, Moor, Go, Done}
use Rattle.day_play.specs.declared.beat.Beat.{Beat}
use Rattle.day_play.specs.declared.day.TheConstants.{BEATS}

-- the ship at place k of the lockage's deck
abbrev pub ship_of : Lockage → ℕ → ℕ
ship_of l k = slice_index_or l.ships k 0

-- the ship at place k of lockage p's deck is moored for it
abbrev pub HasMoored : ChamberState → ℕ → Lockage → ℕ → Type 0
HasMoored s p l k = IsAmong s.moored (record { ship = ship_of l k; lockage = p })

-- nothing is moored and no lockage is under way
pub record IsStill (s : ChamberState) : Type 0 where
  pub empty : s.moored ≡ []
  pub idle : s.going ≡ Idle

-- The lockage names a chamber and ships of the instance, and has a spot for each ship.
pub record IsWholeLockage (I : Instance) (l : Lockage) : Type 0 where
  pub chamber : l.chamber < length I.chambers
  pub ships : All (λ s. s < length I.ships) l.ships
  pub spots : length l.spots ≡ length l.ships

module _ (I : Instance) (P : Plan) where
  -- lockage p of the plan is whole, and of chamber c
  pub record IsOf (c p : ℕ) : Type 0 where
    pub known : p < length P.lockages
    pub chamber : (lockage_at P p).chamber ≡ c
    pub whole : IsWholeLockage I (lockage_at P p)

  -- An empty turn begins in a free chamber of the instance, clear of its closures.
  pub record MayTurn (t c : ℕ) (s : ChamberState) : Type 0 where
    pub in_lock : c < length I.chambers
    pub still : IsStill s
    pub later : s.free ≤ t
    pub free : IsFree (chamber_at I c).closures t (t + (chamber_at I c).turn)

  -- Ship i, at place k of the deck, may lie where it shall: inside, apart from what is moored, and at its quay or at a host that is moored already; and it goes together with what is moored.
  pub record MayLie (p k : ℕ) (l : Lockage) (d : Deck) (s : ChamberState) : Type 0 where
    pub inside : IsInside d (size_at d k) (spot_at l.spots k)
    pub apart : (j : ℕ) → j < length l.ships → j ≢ k → HasMoored s p l j → AreApart d (size_at d k) (spot_at l.spots k) (size_at d j) (spot_at l.spots j)
    pub berthed : IsBerthed d l.spots k
    pub host : (h : ℕ) → (spot_at l.spots k).moor ≡ Ship h → HasMoored s p l h
    pub clear : (j : ℕ) → j < length l.ships → j ≢ k → HasMoored s p l j → GoTogether (size_at d k) (size_at d j)

  -- Ship i of lockage p, which starts now, has come and goes its way; no other lockage has ships in the chamber, and none is under way there; and fewer than `most` ships are moored.
  pub record MayMoor (t c p i : ℕ) (s : ChamberState) : Type 0 where
    pub lockage : IsOf c p
    pub start : (lockage_at P p).start ≡ t
    pub idle : s.going ≡ Idle
    pub same : All (λ (m : Moored). m.lockage ≡ p) s.moored
    pub room : length s.moored < (chamber_at I c).most
    pub arrived : (ship_at I i).arrival ≤ t
    pub way : (ship_at I i).way ≡ (lockage_at P p).way
    pub place : ℕ
    pub within : place < length (lockage_at P p).ships
    pub ship : ship_of (lockage_at P p) place ≡ i
    pub lies : MayLie p place (lockage_at P p) (deck_of I c (lockage_at P p).ships) s

  -- All ships of lockage p are moored; it starts now, in a free chamber that stands as it needs, clear of the closures.
  pub record MayGo (t c p : ℕ) (s : ChamberState) : Type 0 where
    pub lockage : IsOf c p
    pub start : (lockage_at P p).start ≡ t
    pub idle : s.going ≡ Idle
    pub some : 1 ≤ length (lockage_at P p).ships
    pub all : (k : ℕ) → k < length (lockage_at P p).ships → HasMoored s p (lockage_at P p) k
    pub later : s.free ≤ t
    pub side : s.side ≡ stand_before (lockage_at P p).way
    pub free : IsFree (chamber_at I c).closures t (t + duration_of I c (lockage_at P p).ships)

  -- lockage p is under way, and is over now
  pub record MayEnd (t c p : ℕ) (s : ChamberState) : Type 0 where
    pub lockage : IsOf c p
    pub going : s.going ≡ Under p
    pub over : s.free ≡ t

  -- what an act asks of its chamber
  abbrev pub MayDo : ℕ → ℕ → ℕ → Act → ChamberState → Type 0
  MayDo t c p Turn s = MayTurn t c s
  MayDo t c p (Moor i) s = MayMoor t c p i s
  MayDo t c p Go s = MayGo t c p s
  MayDo t c p Done s = MayEnd t c p s

-- Ship i is neither served nor moored anywhere, and lockage p isn't gone.
pub record IsWaiting (p i : ℕ) (s : State) : Type 0 where
  pub waits : IsAmong s.gone p → ⊥
  pub unserved : IsAmong s.served i → ⊥
  pub unmoored : (c q : ℕ) → IsAmong (s.chamber c).moored (record { ship = i; lockage = q }) → ⊥

-- what an act asks of all chambers
abbrev pub MayEnter : ℕ → Act → State → Type 0
MayEnter p Turn s = ⊤
MayEnter p (Moor i) s = IsWaiting p i s
MayEnter p Go s = ⊤
MayEnter p Done s = ⊤

-- the beat is lawful in this state
pub record IsLawful (I : Instance) (P : Plan) (b : Beat) (s : State) : Type 0 where
  pub here : MayDo I P b.minute b.chamber b.lockage b.act (s.chamber b.chamber)
  pub elsewhere : MayEnter b.lockage b.act s

-- each beat is lawful in the state that those before it make
abbrev pub AreLawfulBeats : Instance → Plan → List Beat → State → Type 0
AreLawfulBeats I P [] s = ⊤
AreLawfulBeats I P (b ∷ bs) s = IsLawful I P b s × AreLawfulBeats I P bs (after I P b s)

-- every ship is served, every lockage gone, and every chamber still
pub record IsOver (I : Instance) (P : Plan) (s : State) : Type 0 where
  pub served : (i : ℕ) → i < length I.ships → IsAmong s.served i
  pub gone : (p : ℕ) → p < length P.lockages → IsAmong s.gone p
  pub still : (c : ℕ) → c < length I.chambers → IsStill (s.chamber c)

-- A lawful course of a plan: a lawful day but for the number of its beats, which may be any.
pub record IsLawfulCourse (I : Instance) (P : Plan) (bs : List Beat) : Type 0 where
  pub rising : IsOrdered minute_of 0 bs
  pub lawful : AreLawfulBeats I P bs (opening I)
  pub over : IsOver I P (after_all I P bs (opening I))

-- A LAWFUL DAY of a plan.
pub record IsLawfulDay (I : Instance) (P : Plan) (bs : List Beat) : Type 0 where
  pub few : length bs ≤ BEATS
  pub rising : IsOrdered minute_of 0 bs
  pub lawful : AreLawfulBeats I P bs (opening I)
  pub over : IsOver I P (after_all I P bs (opening I))

-- some list of beats is a lawful day of the plan
abbrev pub HasLawfulDay : Instance → Plan → Type 0
HasLawfulDay I P = (bs : List Beat) × IsLawfulDay I P bs
