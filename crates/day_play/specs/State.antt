-- The state of a lock in the course of a day, and what a beat changes.
use Rattle.std.specs.Prelude.{ℕ, ◌+◌, List, [], ◌∷◌, ◌++◌, nat_eq, if◌then◌else◌}
use Rattle.lock_model.specs.Fleet.{chamber_at}
use Rattle.lock_model.specs.declared.instance.Instance.{Instance}
use Rattle.lock_model.specs.declared.plan.Plan.{Plan}
use Rattle.lock_model.specs.declared.way.Stand.{Stand}
use Rattle.lock_model.specs.declared.way.Stand.TheVariants.{Low, High}
use Rattle.lock_rules.specs.Lawful.{duration_of}
use Rattle.lock_rules.specs.Lines.{lockage_at}
use Rattle.day_play.specs.declared.beat.Act.{Act}
use Rattle.day_play.specs.declared.beat.Act.TheVariants.{Turn, Moor, Go, Done}
use Rattle.day_play.specs.declared.beat.Beat.{Beat}

-- a moored ship, and the lockage for which it is moored
pub record Moored : Type 0 where
  pub ship : ℕ
  pub lockage : ℕ

-- the lockage that is under way in a chamber, if any
pub data Going : Type 0 where
  Idle : Going
  Under : ℕ → Going

-- A chamber: its side, the minute since which it is free, what is moored in it, and what is under way.
pub record ChamberState : Type 0 where
  pub side : Stand
  pub free : ℕ
  pub moored : List Moored
  pub going : Going

-- the chambers by number, the ships served and the lockages gone
pub record State : Type 0 where
  pub chamber : ℕ → ChamberState
  pub served : List ℕ
  pub gone : List ℕ

abbrev pub other_side : Stand → Stand
other_side Low = High
other_side High = Low

-- a chamber before its first beat
abbrev pub opening_chamber : Instance → ℕ → ChamberState
opening_chamber I c = record { side = (chamber_at I c).stands; free = (chamber_at I c).opens; moored = []; going = Idle }

abbrev pub opening : Instance → State
opening I = record { chamber = opening_chamber I; served = []; gone = [] }

-- what an act at minute t for lockage p makes of its chamber c
abbrev pub chamber_after : Instance → Plan → ℕ → ℕ → ℕ → Act → ChamberState → ChamberState
chamber_after I P t c p Turn s = record { side = other_side s.side; free = t + (chamber_at I c).turn; moored = s.moored; going = s.going }
chamber_after I P t c p (Moor i) s = record { side = s.side; free = s.free; moored = record { ship = i; lockage = p } ∷ s.moored; going = s.going }
chamber_after I P t c p Go s = record { side = s.side; free = t + duration_of I c (lockage_at P p).ships; moored = s.moored; going = Under p }
chamber_after I P t c p Done s = record { side = other_side s.side; free = s.free; moored = []; going = Idle }

abbrev pub served_after : Plan → ℕ → Act → List ℕ → List ℕ
served_after P p Turn served = served
served_after P p (Moor i) served = served
served_after P p Go served = served
served_after P p Done served = (lockage_at P p).ships ++ served

abbrev pub gone_after : ℕ → Act → List ℕ → List ℕ
gone_after p Turn gone = gone
gone_after p (Moor i) gone = gone
gone_after p Go gone = gone
gone_after p Done gone = p ∷ gone

-- the state after an act; only its own chamber changes
abbrev pub state_after : Instance → Plan → ℕ → ℕ → ℕ → Act → State → State
state_after I P t c p a s = record {
  chamber = λ d. if nat_eq d c then (chamber_after I P t c p a (s.chamber d)) else (s.chamber d);
  served = served_after P p a s.served;
  gone = gone_after p a s.gone;
}

-- the state after a beat
abbrev pub after : Instance → Plan → Beat → State → State
after I P b s = state_after I P b.minute b.chamber b.lockage b.act s

-- the state after some beats
abbrev pub after_all : Instance → Plan → List Beat → State → State
after_all I P [] s = s
after_all I P (b ∷ bs) s = after_all I P bs (after I P b s)
