-- A walk along the line of a chamber, group by group.
use Rattle.std.specs.Prelude.{ℕ, ◌≡◌, ◌+◌, ◌-◌, ◌*◌, ◌≤◌, ◌<◌, List, [], ◌∷◌, length, max, sum_by, take, slice_index_or}
use Rattle.lock_model.specs.declared.way.Way.{Way}
use Rattle.lock_model.specs.declared.way.Way.TheVariants.{Up, Down}
use Rattle.lock_model.specs.declared.way.Stand.{Stand}
use Rattle.lock_model.specs.declared.way.Stand.TheVariants.{Low, High}
use Rattle.lock_model.specs.Fleet.{ship_at, chamber_at}
use Rattle.lock_model.specs.declared.chamber.Chamber.{Chamber}
use Rattle.lock_model.specs.declared.instance.Instance.{Instance}
use Rattle.lock_model.specs.declared.group.Group.{Group}
use Rattle.lock_rules.specs.Lawful.{duration_of, stand_after}
use Rattle.lock_rules.specs.Node.{line_at}
use Rattle.lock_rules.specs.Timetable.{first_free, ready_at, start_of}
use Rattle.master_branch.specs.declared.step.Step.{Step}
use Rattle.master_branch.specs.declared.step.Step.TheVariants.{Join, Open}
use Rattle.flow_bounds.specs.declared.load.Load.{Load}
use Rattle.flow_bounds.specs.declared.walk.Walk.{Walk}
use Rattle.flow_bounds.specs.Most.{group_flow}

-- before the first group of chamber c
abbrev pub walk_start : Instance → ℕ → Walk
walk_start I c = record { stand = (chamber_at I c).stands; done = (chamber_at I c).opens; flow = 0 }

-- the flow times of these ships, where they end at this minute
abbrev pub flow_until : Instance → ℕ → List ℕ → ℕ
flow_until I end ships = sum_by (λ s. end - (ship_at I s).arrival) ships

-- after one more group, served as early as it can be
abbrev pub serve : Instance → ℕ → Walk → Group → Walk
serve I c w g =
    let end = start_of I c w.stand w.done g + duration_of I c g.ships in
    record { stand = stand_after g.way; done = end; flow = w.flow + flow_until I end g.ships }

-- the minutes of the empty turn that a way needs
abbrev pub turn_for : Chamber → Stand → Way → ℕ
turn_for lock Low Up = 0
turn_for lock Low Down = lock.turn
turn_for lock High Up = lock.turn
turn_for lock High Down = 0

-- the end of a group of this load behind a walk
abbrev pub end_with : Chamber → Walk → Load → ℕ
end_with lock w load =
    first_free lock.closures (lock.pass + load.handling) (max (ready_at lock w.stand w.done load.way) load.latest)
    + (lock.pass + load.handling)

-- after these groups
abbrev pub serve_all : Instance → ℕ → Walk → List Group → Walk
serve_all I c w [] = w
serve_all I c w (g ∷ gs) = serve_all I c (serve I c w g) gs

abbrev pub no_walk : Walk
no_walk = record { stand = Low; done = 0; flow = 0 }

abbrev pub walk_at : List Walk → ℕ → Walk
walk_at ws i = slice_index_or ws i no_walk

-- the walks along a line of chamber c: number i is after the first i groups
pub record AreWalks (I : Instance) (c : ℕ) (line : List Group) (ws : List Walk) : Type 0 where
  pub room : length line < length ws
  pub each : (i : ℕ) → i ≤ length line → walk_at ws i ≡ serve_all I c (walk_start I c) (take i line)
  pub done : (i : ℕ) → i ≤ length line → (walk_at ws i).done ≤ 1000000 + i * 12000000
  pub flow : (i : ℕ) → i ≤ length line → (walk_at ws i).flow ≤ i * group_flow

-- the chamber of a step
abbrev pub chamber_of : Step → ℕ
chamber_of (Join c p) = c
chamber_of (Open c p) = c

-- the line of its chamber
abbrev pub line_of : List (List Group) → Step → List Group
line_of lines step = line_at lines (chamber_of step)
