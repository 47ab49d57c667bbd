-- What has begun at a minute M of a plan P: the lockages that start before it, and in a chamber the empty turn for its next lockage.
use Rattle.std.specs.Prelude.{ℕ, Bool, true, false, not, ◌&&◌, nat_lt, find, Option, Some, None, if◌then◌else◌}
use Rattle.lock_model.specs.declared.chamber.Chamber.{Chamber}
use Rattle.lock_model.specs.declared.instance.Instance.{Instance}
use Rattle.lock_model.specs.declared.plan.Plan.{Plan}
use Rattle.lock_model.specs.declared.way.Stand.{Stand}
use Rattle.lock_model.specs.declared.way.Stand.TheVariants.{Low, High}
use Rattle.lock_model.specs.declared.way.Way.{Way}
use Rattle.lock_model.specs.declared.way.Way.TheVariants.{Up, Down}
use Rattle.lock_rules.specs.Lines.{lockage_at}
use Rattle.lock_rules.specs.Timetable.{first_free, turned_at}
use Rattle.chamber_times.specs.Walk.{line_places}
use Rattle.day_play.specs.State.{other_side}
use Rattle.replan.specs.Kept.{starts_before, kept_of}
use Rattle.replan.specs.Rest.{chamber_after}

-- the place of chamber c's first lockage that has not begun, by start, equal starts by place
abbrev pub next_place : Plan → ℕ → ℕ → Option ℕ
next_place P M c = find (λ p. not (starts_before M (lockage_at P p))) (line_places P c)

-- a chamber that stands so has to turn for a lockage of this way
abbrev pub needs_turn : Stand → Way → Bool
needs_turn Low Up = false
needs_turn Low Down = true
needs_turn High Up = true
needs_turn High Down = false

-- the least lawful minute of an empty turn of a chamber that is free since its opening
abbrev pub turn_minute : Chamber → ℕ
turn_minute k = first_free k.closures k.turn k.opens

-- The lockage for which the chamber k, as the begun lockages leave it, has begun an empty turn, by its place: the next one, where it needs a turn whose least lawful minute is before M.
abbrev pub turn_for : Plan → ℕ → Chamber → Option ℕ → Option ℕ
turn_for P M k None = None
turn_for P M k (Some p) = if needs_turn k.stands (lockage_at P p).way && nat_lt (turn_minute k) M then Some p else None

-- the lockage for which chamber c has begun an empty turn
abbrev pub begun_turn : Instance → Plan → ℕ → ℕ → Option ℕ
begun_turn I P M c = turn_for P M (chamber_after I (kept_of P M) c) (next_place P M c)

-- the chamber as an empty turn leaves it that begins as early as may be
abbrev pub turned : Chamber → Chamber
turned k = record k { stands = other_side k.stands; opens = turned_at k k.opens }

abbrev pub turned_where : Option ℕ → Chamber → Chamber
turned_where None k = k
turned_where (Some p) k = turned k

-- The chamber as the last that has begun in it leaves it, lockage or turn; where nothing has, as it is in the instance.
abbrev pub chamber_begun : Instance → Plan → ℕ → ℕ → Chamber
chamber_begun I P M c = turned_where (begun_turn I P M c) (chamber_after I (kept_of P M) c)
