-- The lines that lead to a label.
use Rattle.std.specs.Prelude.{ℕ, ◌≡◌, ◌+◌, ◌≤◌, ◌<◌, List, [], ◌∷◌, length, All, if◌then◌else◌}
use Rattle.lock_model.specs.Fleet.{chamber_at}
use Rattle.lock_model.specs.declared.instance.Instance.{Instance}
use Rattle.lock_model.specs.declared.group.Group.{Group}
use Rattle.lock_model.specs.declared.way.Way.{Way}
use Rattle.lock_model.specs.declared.way.Stand.{Stand}
use Rattle.lock_rules.specs.Lawful.{duration_of, stand_after}
use Rattle.lock_rules.specs.Timetable.{ready_at, start_of}
use Rattle.price_rules.specs.Prices.{PlainCut, IsUncut, flow_over}
use Rattle.sweep_rules.specs.Uncut.{times_over}
use Rattle.sweep_rules.specs.Label.{Label, IsWanted}

-- where chamber c stands behind these groups, and the minute at which it is done with them at the earliest
abbrev pub stand_behind : Stand → List Group → Stand
stand_behind stand [] = stand
stand_behind stand (g ∷ gs) = stand_behind (stand_after g.way) gs

abbrev pub done_behind : Instance → ℕ → Stand → ℕ → List Group → ℕ
done_behind I c stand from [] = from
done_behind I c stand from (g ∷ gs) = done_behind I c (stand_after g.way) (start_of I c stand from g + duration_of I c g.ships) gs

-- the first minute at which chamber c may be ready for the way behind a line
abbrev pub ready_behind : Instance → ℕ → List Group → Way → ℕ
ready_behind I c line way =
    ready_at (chamber_at I c) (stand_behind (chamber_at I c).stands line) (done_behind I c (chamber_at I c).stands (chamber_at I c).opens line) way

-- The lines lead to the label: uncut groups of the served ships, each ship once, which in their earliest timetables end no later and have no more flow time than the label says.
pub record LeadTo (I : Instance) (cuts : List PlainCut) (label : Label) (lines : ℕ → List Group) : Type 0 where
  pub uncut : (c : ℕ) → c < length I.chambers → All (IsUncut I c cuts) (lines c)
  pub once : (s : ℕ) → s < length I.ships → times_over I s lines ≡ (if label.served s then 1 else 0)
  pub ready : (c : ℕ) → c < length I.chambers → (way : Way) (s : ℕ) → IsWanted I cuts label.served c way s
      → ready_behind I c (lines c) way ≤ label.ready c way
  pub flow : flow_over I lines ≤ label.flow
