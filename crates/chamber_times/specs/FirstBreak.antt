-- The first break of a chamber's line: which lockage starts against the rules, and what it breaks.
use Rattle.std.specs.Prelude.{ℕ, ◌≡◌, ◌+◌, ◌≤◌, ◌<◌, ◌⊎◌, List, [], ◌∷◌, ◌++◌, All, Any, map}
use Rattle.lock_model.specs.Fleet.{ship_at, chamber_at}
use Rattle.lock_model.specs.declared.instance.Instance.{Instance}
use Rattle.lock_model.specs.declared.plan.Lockage.{Lockage}
use Rattle.lock_model.specs.declared.plan.Plan.{Plan}
use Rattle.lock_model.specs.declared.way.Stand.{Stand}
use Rattle.lock_rules.specs.Lawful.{AreLawful, HasTurned, IsFree, duration_of, stand_after}
use Rattle.lock_rules.specs.Lines.{group_of, lockage_at}
use Rattle.chamber_times.specs.Walk.{lockages_at, line_places}
use Rattle.chamber_times.specs.declared.breaks.BrokenTime.{BrokenTime}
use Rattle.chamber_times.specs.declared.breaks.BrokenTime.TheVariants.{Early, Soon, Shut}

-- a ship of the lockage arrives after its start
pub record IsEarly (I : Instance) (l : Lockage) : Type 0 where
  pub late : Any (λ s. l.start < (ship_at I s).arrival) l.ships

-- no ship of the lockage arrives after its start
pub record IsNotEarly (I : Instance) (l : Lockage) : Type 0 where
  pub arrived : All (λ s. (ship_at I s).arrival ≤ l.start) l.ships

-- It isn't early, and starts before the chamber is done with all before, or with no room for the empty turn that it needs.
pub record IsSoon (I : Instance) (c : ℕ) (stand : Stand) (from : ℕ) (l : Lockage) : Type 0 where
  pub on_time : IsNotEarly I l
  pub soon : (l.start < from) ⊎ (¬ HasTurned (chamber_at I c) stand l.way from l.start)

-- It is neither early nor too soon, and a closure lies in its span.
pub record IsShut (I : Instance) (c : ℕ) (stand : Stand) (from : ℕ) (l : Lockage) : Type 0 where
  pub on_time : IsNotEarly I l
  pub later : from ≤ l.start
  pub turned : HasTurned (chamber_at I c) stand l.way from l.start
  pub shut : ¬ IsFree (chamber_at I c).closures l.start (l.start + duration_of I c l.ships)

-- What the start of the lockage at place p breaks, where the chamber stands so and is done with all before at `from`.
abbrev pub Breaks : Instance → ℕ → Stand → ℕ → Lockage → ℕ → BrokenTime → Type 0
Breaks I c stand from l p (Early q) = (q ≡ p) × IsEarly I l
Breaks I c stand from l p (Soon q) = (q ≡ p) × IsSoon I c stand from l
Breaks I c stand from l p (Shut q) = (q ≡ p) × IsShut I c stand from l

-- where the chamber stands after these lockages
abbrev pub stand_after_all : Stand → List Lockage → Stand
stand_after_all stand [] = stand
stand_after_all stand (l ∷ ls) = stand_after_all (stand_after l.way) ls

-- the minute at which chamber c is done with these lockages
abbrev pub done_after_all : Instance → ℕ → ℕ → List Lockage → ℕ
done_after_all I c from [] = from
done_after_all I c from (l ∷ ls) = done_after_all I c (l.start + duration_of I c l.ships) ls

-- these lockages of chamber c, served in this order, have lawful starts
pub record AreTimely (I : Instance) (c : ℕ) (ls : List Lockage) : Type 0 where
  pub lawful : AreLawful I c (map group_of ls) (map (λ l. l.start) ls)

-- Walking the chamber's lockages by start, equal starts by place: those before this place are lawful, and the one there breaks this.
pub record IsFirstBreak (I : Instance) (P : Plan) (c : ℕ) (b : BrokenTime) : Type 0 where
  pub before : List ℕ
  pub place : ℕ
  pub after : List ℕ
  pub walk : line_places P c ≡ before ++ place ∷ after
  pub timely : AreTimely I c (lockages_at P before)
  pub broken : Breaks I c (stand_after_all (chamber_at I c).stands (lockages_at P before)) (done_after_all I c (chamber_at I c).opens (lockages_at P before)) (lockage_at P place) place b
