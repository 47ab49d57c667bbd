-- When the groups of a line may start: after their ships' arrivals, after the lockage before and its empty turn, and clear of the closures.
use Rattle.std.specs.Prelude.{ℕ, ◌+◌, ◌≤◌, ◌<◌, ◌⊎◌, List, [], ◌∷◌, All, sum_by, ⊤}
use Rattle.std.specs.List.{AllZip}
use Rattle.lock_model.specs.Fleet.{ship_at, chamber_at}
use Rattle.lock_model.specs.declared.chamber.Chamber.{Chamber}
use Rattle.lock_model.specs.declared.closure.Closure.{Closure}
use Rattle.lock_model.specs.declared.instance.Instance.{Instance}
use Rattle.lock_model.specs.declared.group.Group.{Group}
use Rattle.lock_model.specs.declared.way.Way.{Way}
use Rattle.lock_model.specs.declared.way.Way.TheVariants.{Up, Down}
use Rattle.lock_model.specs.declared.way.Stand.{Stand}
use Rattle.lock_model.specs.declared.way.Stand.TheVariants.{Low, High}

-- the passage and the handling of each ship
abbrev pub duration_of : Instance → ℕ → List ℕ → ℕ
duration_of I c ships = (chamber_at I c).pass + sum_by (λ s. (ship_at I s).handling) ships

-- where the chamber stands before a lockage
abbrev pub stand_before : Way → Stand
stand_before Up = Low
stand_before Down = High

-- where a lockage leaves the chamber
abbrev pub stand_after : Way → Stand
stand_after Up = High
stand_after Down = Low

-- A span that isn't empty ends before the closure begins, or begins after it ends.
pub record Misses (from to : ℕ) (k : Closure) : Type 0 where
  pub apart : from < to → (to ≤ k.from) ⊎ (k.to ≤ from)

-- the span [from, to) shares no minute with a closure
abbrev pub IsFree : List Closure → ℕ → ℕ → Type 0
IsFree ks from to = All (Misses from to) ks

-- an empty turn has room between the two minutes
pub record HasTurn (c : Chamber) (from to : ℕ) : Type 0 where
  pub at : ℕ
  pub after : from ≤ at
  pub before : at + c.turn ≤ to
  pub free : IsFree c.closures at (at + c.turn)

-- An empty turn has room where the chamber stands on the other side than the way needs.
abbrev pub HasTurned : Chamber → Stand → Way → ℕ → ℕ → Type 0
HasTurned c Low Up from to = ⊤
HasTurned c Low Down from to = HasTurn c from to
HasTurned c High Up from to = HasTurn c from to
HasTurned c High Down from to = ⊤

-- The group may start at this minute, where the chamber stands so and is done with all before at `from`.
pub record IsLawfulStart (I : Instance) (c : ℕ) (stand : Stand) (from : ℕ) (g : Group) (start : ℕ) : Type 0 where
  pub arrived : All (λ s. (ship_at I s).arrival ≤ start) g.ships
  pub later : from ≤ start
  pub turned : HasTurned (chamber_at I c) stand g.way from start
  pub free : IsFree (chamber_at I c).closures start (start + duration_of I c g.ships)

-- The groups may start at these minutes, one each, one after the other.
abbrev pub AreLawfulFrom : Instance → ℕ → Stand → ℕ → List Group → List ℕ → Type 0
AreLawfulFrom I c stand from [] [] = ⊤
AreLawfulFrom I c stand from [] (s ∷ ss) = ⊥
AreLawfulFrom I c stand from (g ∷ gs) [] = ⊥
AreLawfulFrom I c stand from (g ∷ gs) (s ∷ ss) =
    IsLawfulStart I c stand from g s
    × AreLawfulFrom I c (stand_after g.way) (s + duration_of I c g.ships) gs ss

-- lawful starts of a chamber's groups
abbrev pub AreLawful : Instance → ℕ → List Group → List ℕ → Type 0
AreLawful I c line starts = AreLawfulFrom I c (chamber_at I c).stands (chamber_at I c).opens line starts

-- lawful, and at most every lawful list, place by place
pub record AreEarliest (I : Instance) (c : ℕ) (line : List Group) (starts : List ℕ) : Type 0 where
  pub lawful : AreLawful I c line starts
  pub least : (others : List ℕ) → AreLawful I c line others → AllZip (λ s t. s ≤ t) starts others
