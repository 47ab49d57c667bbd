-- A ship that has entered a line: how the walk goes on behind its group.
use Rattle.std.specs.Prelude.{ℕ, ◌≡◌, ◌+◌, ◌*◌, ◌≤◌, List, length, drop}
use Rattle.lock_model.specs.Fleet.{chamber_at}
use Rattle.lock_model.specs.declared.instance.Instance.{Instance}
use Rattle.lock_model.specs.declared.group.Group.{Group}
use Rattle.lock_model.specs.declared.way.Way.{Way}
use Rattle.lock_rules.specs.Bound.{line_flow, node_flow}
use Rattle.lock_rules.specs.Timetable.{ready_at}
use Rattle.master_branch.specs.Steps.{lines_after}
use Rattle.master_branch.specs.declared.step.Step.{Step}
use Rattle.flow_bounds.specs.declared.walk.Walk.{Walk}
use Rattle.flow_bounds.specs.declared.entering.Entered.{Entered}
use Rattle.flow_bounds.specs.Most.{group_flow}
use Rattle.flow_bounds.specs.Walk.{serve_all, walk_at, chamber_of, line_of}

-- the walk w is no further on than v in time: it is done no earlier, and ready for each way no earlier
pub record IsBehind (I : Instance) (c : ℕ) (w v : Walk) : Type 0 where
  pub done : v.done ≤ w.done
  pub ready : (way : Way) → ready_at (chamber_at I c) v.stand v.done way ≤ ready_at (chamber_at I c) w.stand w.done way

-- the walk goes on behind the walks along the line, and no minute is past the limits
pub record IsEntered (I : Instance) (c : ℕ) (line : List Group) (ws : List Walk) (e : Entered) : Type 0 where
  pub within : e.from ≤ length line
  pub behind : IsBehind I c e.walk (walk_at ws e.from)
  pub done : e.walk.done ≤ 1000000 + (e.from + 1) * 12000000
  pub flow : e.walk.flow ≤ (e.from + 1) * group_flow

-- the flow times of the line of chamber c with the ship that has entered it
abbrev pub entered_flow : Instance → ℕ → List Group → Entered → ℕ
entered_flow I c line e = (serve_all I c e.walk (drop e.from line)).flow

-- with these the lines after a step of ship s take what the lines took, less what the step's line took
abbrev pub IsFlowAfter : Instance → ℕ → List (List Group) → Step → Entered → Type 0
IsFlowAfter I s lines step e =
    entered_flow I (chamber_of step) (line_of lines step) e + node_flow I lines
    ≡ node_flow I (lines_after I s lines step) + line_flow I (chamber_of step) (line_of lines step)
