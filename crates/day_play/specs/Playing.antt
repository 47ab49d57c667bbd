-- The day that is played of a legal plan.
use Rattle.std.specs.Prelude.{ℕ, ◌+◌, ◌<◌, List, [], ◌∷◌, ◌++◌, length, map}
use Rattle.lock_model.specs.Fleet.{chamber_at}
use Rattle.lock_model.specs.declared.instance.Instance.{Instance}
use Rattle.lock_model.specs.declared.plan.Lockage.{Lockage}
use Rattle.lock_model.specs.declared.plan.Plan.{Plan}
use Rattle.lock_model.specs.declared.way.Stand.{Stand}
use Rattle.lock_model.specs.declared.way.Stand.TheVariants.{Low, High}
use Rattle.lock_model.specs.declared.way.Way.{Way}
use Rattle.lock_model.specs.declared.way.Way.TheVariants.{Up, Down}
use Rattle.lock_rules.specs.Arrival.{numbers_from}
use Rattle.lock_rules.specs.Lawful.{duration_of, stand_after}
use Rattle.lock_rules.specs.Lines.{lockage_at}
use Rattle.lock_rules.specs.Timetable.{first_free}
use Rattle.chamber_times.specs.Walk.{line_places}
use Rattle.day_play.specs.Order.{put_each, minute_of}
use Rattle.day_play.specs.Lawful.{ship_of}
use Rattle.day_play.specs.ComingIn.{CanComeIn, by_depth, in_turn}
use Rattle.day_play.specs.declared.beat.Act.TheVariants.{Turn, Moor, Go, Done}
use Rattle.day_play.specs.declared.beat.Beat.{Beat}

-- the order in which the ships of a lockage come in: of those that aren't moored yet the deepest whose host is moored and that blocks none of them
abbrev pub moor_order : Instance → Lockage → List ℕ
moor_order I l = in_turn I l (length l.ships) (by_depth I l)

-- in each lockage of the plan all ships can come in in that order
abbrev pub CanAllComeIn : Instance → Plan → Type 0
CanAllComeIn I P = (p : ℕ) → p < length P.lockages → CanComeIn I (lockage_at P p) (moor_order I (lockage_at P p))

-- the beat of ship at place k
abbrev pub moor_beat : ℕ → Lockage → ℕ → Beat
moor_beat p l k = record { minute = l.start; chamber = l.chamber; lockage = p; act = Moor (ship_of l k) }

abbrev pub moor_beats : ℕ → Lockage → List ℕ → List Beat
moor_beats p l ks = map (moor_beat p l) ks

-- the empty turn at the least lawful minute
abbrev pub turn_beat : Instance → ℕ → Lockage → ℕ → Beat
turn_beat I p l from = record { minute = first_free (chamber_at I l.chamber).closures (chamber_at I l.chamber).turn from; chamber = l.chamber; lockage = p; act = Turn }

-- a turn where the way needs one
abbrev pub turn_beats : Instance → ℕ → Lockage → ℕ → Stand → Way → List Beat
turn_beats I p l from Low Up = []
turn_beats I p l from Low Down = turn_beat I p l from ∷ []
turn_beats I p l from High Up = turn_beat I p l from ∷ []
turn_beats I p l from High Down = []

abbrev pub go_beat : ℕ → Lockage → Beat
go_beat p l = record { minute = l.start; chamber = l.chamber; lockage = p; act = Go }

abbrev pub done_beat : Instance → ℕ → Lockage → Beat
done_beat I p l = record { minute = l.start + duration_of I l.chamber l.ships; chamber = l.chamber; lockage = p; act = Done }

-- all beats of a lockage, where its chamber stands so and is free at `from`
abbrev pub lockage_beats : Instance → ℕ → Lockage → Stand → ℕ → List Beat
lockage_beats I p l stand from = turn_beats I p l from stand l.way ++ (moor_beats p l (moor_order I l) ++ go_beat p l ∷ done_beat I p l ∷ [])

-- the beats of the lockages at these places, one after the other
abbrev pub line_beats : Instance → Plan → Stand → ℕ → List ℕ → List Beat
line_beats I P stand from [] = []
line_beats I P stand from (p ∷ ps) =
    let l = lockage_at P p in
    lockage_beats I p l stand from ++ line_beats I P (stand_after l.way) (l.start + duration_of I l.chamber l.ships) ps

abbrev pub chamber_beats : Instance → Plan → ℕ → List Beat
chamber_beats I P c = line_beats I P (chamber_at I c).stands (chamber_at I c).opens (line_places P c)

-- the beats of these chambers, where each has these
abbrev pub beats_by : (ℕ → List Beat) → List ℕ → List Beat
beats_by own [] = []
beats_by own (c ∷ cs) = own c ++ beats_by own cs

abbrev pub beats_of : Instance → Plan → List ℕ → List Beat
beats_of I P cs = beats_by (chamber_beats I P) cs

-- the beats of n chambers, where each has these, by minute, then by chamber, then by their order in the chamber
abbrev pub mixed : (ℕ → List Beat) → ℕ → List Beat
mixed own n = put_each minute_of [] (beats_by own (numbers_from 0 n))

-- The day: the beats of all chambers.
abbrev pub day_of : Instance → Plan → List Beat
day_of I P = mixed (chamber_beats I P) (length I.chambers)
