-- How a sweep goes on: the labels that it has made are open or treated, and what was met stays so.
use Rattle.std.specs.Prelude.{ℕ, ◌≡◌, ◌<◌, List, length}
use Rattle.lock_model.specs.declared.group.Group.{Group}
use Rattle.lock_model.specs.declared.way.Way.{Way}
use Rattle.sweep_rules.specs.Label.{Label, CanGoOn, IsGoneOn}
use Rattle.sweep_rules.specs.Treated.{IsMet, IsTreated}
use Rattle.sweep_labels.specs.declared.label.Label.{Label as CodeLabel}
use Rattle.sweep_labels.specs.declared.made.Made.{Made}
use Rattle.sweep_labels.specs.declared.step.Arc.{Arc}
use Rattle.sweep_labels.specs.Labels.{ready_by, times_at, label_of}
use Rattle.sweep_labels.specs.Sweeping.{labels_of, AreTreated}
use Rattle.sweep_labels.specs.Made.{HasGrown}
use Rattle.sweep_labels.specs.Coming.{AllArrive}
use Rattle.sweep_labels.specs.Arcs.{IsArcBy, arc_at}
use Rattle.sweep.specs.declared.sweep_case.SweepCase.{SweepCase}
use Rattle.sweep.specs.declared.sweeper.Sweeper.{Sweeper}
use Rattle.sweep.specs.Bounds.{cuts_of}
use Rattle.sweep.specs.Late.{IsGuided}

-- The lanes are right and so are late costs, the ships that the chambers wait for are listed, and each label is open or treated.
pub record IsSound (case : SweepCase) (s : Sweeper) : Type 0 where
  pub arrive : AllArrive case.instance.now (cuts_of case) case.arrivals.now
  pub guided : IsGuided case s.lanes.now s.known
  pub level : length s.made.labels.are_open.items ≡ length s.made.labels.items.items
  pub treated : AreTreated case.instance.now (cuts_of case) s.made.goal s.made.labels.items.items s.made.labels.are_open.items

-- labels were appended, and the goal is no higher
abbrev pub IsGrown : Made → Made → Type 0
IsGrown old new = HasGrown old.labels.items.items old.goal new.labels.items.items new.goal

-- the sweep is further on, and as sound, with the same late costs
pub record IsFurther (case : SweepCase) (old new : Sweeper) : Type 0 where
  pub sound : IsSound case new
  pub known : new.known ≡ old.known
  pub grown : IsGrown old.made new.made

-- the label is met by those that were made
abbrev pub IsMetBy : SweepCase → Made → Label → Type 0
IsMetBy case made label = IsMet case.instance.now (cuts_of case) made.goal (labels_of made.labels.items.items) label

-- all labels are treated, and they meet this one
pub record IsDone (case : SweepCase) (made : Made) (label : Label) : Type 0 where
  pub treated : (k : ℕ) → k < length (labels_of made.labels.items.items) → IsTreated case.instance.now (cuts_of case) made.goal (labels_of made.labels.items.items) k
  pub met : IsMetBy case made label

-- a label to which the label goes on by the group is met
pub record IsLedOn (case : SweepCase) (made : Made) (from : Label) (c : ℕ) (g : Group) : Type 0 where
  pub next : Label
  pub gone : IsGoneOn case.instance.now (cuts_of case) from c g next
  pub met : IsMetBy case made next

-- the label may go on by the group, and the arc is that group behind it
pub record IsArcOn (case : SweepCase) (from : CodeLabel) (c : ℕ) (way : Way) (arc : Arc) (g : Group) : Type 0 where
  pub can : CanGoOn case.instance.now (cuts_of case) (label_of from) c g
  pub same : g.way ≡ way
  pub is : IsArcBy case.instance.now case.prices.now c (ready_by (times_at from.ready c) way) g arc

-- the same by each group that the arc may be
pub record IsArcLed (case : SweepCase) (made : Made) (from : CodeLabel) (c : ℕ) (way : Way) (arc : Arc) : Type 0 where
  pub each : (g : Group) → IsArcOn case from c way arc g → IsLedOn case made (label_of from) c g

-- by each of the first n arcs
pub record AreArcsLed (case : SweepCase) (made : Made) (from : CodeLabel) (c : ℕ) (way : Way) (n : ℕ) (arcs : List Arc) : Type 0 where
  pub each : (k : ℕ) → k < n → IsArcLed case made from c way (arc_at arcs k)

-- by each group of the way
pub record IsWayLed (case : SweepCase) (made : Made) (from : Label) (c : ℕ) (way : Way) : Type 0 where
  pub each : (g : Group) → CanGoOn case.instance.now (cuts_of case) from c g → g.way ≡ way → IsLedOn case made from c g

-- by each group of the first n chambers
pub record AreLed (case : SweepCase) (made : Made) (from : Label) (n : ℕ) : Type 0 where
  pub each : (c : ℕ) → c < n → (g : Group) → CanGoOn case.instance.now (cuts_of case) from c g → IsLedOn case made from c g
