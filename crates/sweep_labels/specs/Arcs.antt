-- What the arcs of a chamber promise: the groups by which labels may go on, and what prices bound behind them.
use Rattle.std.specs.Prelude.{ℕ, ℤ, pos, ◌+ℤ◌, ◌≤ℤ◌, ◌<ℤ◌, ◌≡◌, ◌+◌, ◌*◌, ◌-◌, ◌<◌, ◌⊎◌, false, cond, nat_eq, List, length, All, sum_by, slice_index_or}
use Rattle.lock_model.specs.Fleet.{ship_at}
use Rattle.lock_model.specs.declared.instance.Instance.{Instance}
use Rattle.lock_model.specs.declared.group.Group.{Group}
use Rattle.lock_model.specs.declared.way.Way.{Way}
use Rattle.lock_rules.specs.Lawful.{duration_of, stand_before, stand_after}
use Rattle.lock_rules.specs.Timetable.{start_of}
use Rattle.lock_rules.specs.Trace.{has_number}
use Rattle.price_rules.specs.Prices.{PriceList, PlainCut, IsUncut, price_at, charged_by}
use Rattle.sweep_rules.specs.Label.{Label}
use Rattle.sweep_rules.specs.Gain.{IsGainFrom, IsGain}
use Rattle.sweep_labels.specs.declared.ready_times.ReadyTimes.{ReadyTimes}
use Rattle.sweep_labels.specs.declared.step.Arc.{Arc}
use Rattle.sweep_labels.specs.Ships.{is_in}
use Rattle.sweep_labels.specs.Labels.{ready_by}

-- the start, the end and the flow time of a group that comes next where its chamber is ready for its way at a minute
abbrev pub start_from : Instance → ℕ → ℕ → Group → ℕ
start_from I c minute g = start_of I c (stand_before g.way) minute g

abbrev pub end_from : Instance → ℕ → ℕ → Group → ℕ
end_from I c minute g = start_from I c minute g + duration_of I c g.ships

abbrev pub flow_from : Instance → ℕ → ℕ → Group → ℕ
flow_from I c minute g = sum_by (λ s. end_from I c minute g - (ship_at I s).arrival) g.ships

-- The arc is this group of chamber c from the minute on.
pub record IsArcBy (I : Instance) (prices : PriceList) (c minute : ℕ) (g : Group) (arc : Arc) : Type 0 where
  pub ships : (s : ℕ) → s < length I.ships → is_in arc.ships.bits s ≡ has_number g.ships s
  pub start : arc.start ≡ start_from I c minute g
  pub end : arc.end ≡ end_from I c minute g
  pub flow : arc.flow ≡ flow_from I c minute g
  pub pays : arc.prices ≡ sum_by (price_at prices) g.ships

-- The worth is no more than 100 times the group's flow time and what it is charged, less its ships' prices and the gain from its end: nothing that
-- begins with the group is worth less.
pub record IsLowWorth (I : Instance) (cuts : List PlainCut) (prices : PriceList) (c minute : ℕ) (g : Group) (worth : ℤ) : Type 0 where
  pub gain : ℕ
  pub is : IsGainFrom I c cuts (λ s. false) prices (stand_after g.way) (end_from I c minute g) gain
  pub least : (worth +ℤ pos (sum_by (price_at prices) g.ships + gain)) ≤ℤ pos (100 * flow_from I c minute g + charged_by prices g)

abbrev pub no_arc : Arc
no_arc = record { ships = record { bits = 0 }; start = 0; end = 0; flow = 0; prices = 0; worth = pos 0 }

abbrev pub arc_at : List Arc → ℕ → Arc
arc_at arcs k = slice_index_or arcs k no_arc

-- the group has an arc
pub record HasArc (I : Instance) (prices : PriceList) (c minute : ℕ) (arcs : List Arc) (g : Group) : Type 0 where
  pub place : ℕ
  pub within : place < length arcs
  pub is : IsArcBy I prices c minute g (arc_at arcs place)

-- the group is worth more than the room
pub record IsBeyond (I : Instance) (cuts : List PlainCut) (prices : PriceList) (c minute : ℕ) (room : ℤ) (g : Group) : Type 0 where
  pub worth : ℤ
  pub more : room <ℤ worth
  pub low : IsLowWorth I cuts prices c minute g worth

-- Each uncut group of the way that has none of the ships of these bits has an arc, or is worth more than the room.
pub record AreArcs (I : Instance) (cuts : List PlainCut) (prices : PriceList) (c : ℕ) (way : Way) (minute bits : ℕ) (room : ℤ) (arcs : List Arc) : Type 0 where
  pub whole : (g : Group) → IsUncut I c cuts g → g.way ≡ way → All (λ s. is_in bits s ≡ false) g.ships
      → HasArc I prices c minute arcs g ⊎ IsBeyond I cuts prices c minute room g

-- The gain of chamber c behind each label of these minutes, in hundredths of a minute.
pub record IsGainBehind (I : Instance) (cuts : List PlainCut) (prices : PriceList) (c : ℕ) (times : ReadyTimes) (gain : ℕ) : Type 0 where
  pub is : (label : Label) → ((way : Way) → label.ready c way ≡ ready_by times way) → IsGain I c cuts label prices gain

-- the gains of the other chambers, and one for chamber c
abbrev pub gains_with : (ℕ → ℕ) → ℕ → ℕ → ℕ → ℕ
gains_with gains c own d = cond (nat_eq d c) own (gains d)
