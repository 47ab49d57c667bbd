-- The chambers of a sweep, and their gains.
use Rattle.std.specs.Prelude.{ℕ, ◌≡◌, false, Some, None, [], List, slice_index_or}
use Rattle.std.specs.declared.option.Option.{Option}
use Rattle.lock_model.specs.declared.way.Way.{Way}
use Rattle.lock_model.specs.declared.way.Way.TheVariants.{Up, Down}
use Rattle.lock_rules.specs.Lawful.{stand_before}
use Rattle.price_groups.specs.Asked.{line_asked}
use Rattle.price_groups.specs.Asks.{LineAsk}
use Rattle.price_groups.specs.Sparing.{AreForbidden}
use Rattle.price_table.specs.Ends.{AreEndValues}
use Rattle.price_terms.specs.Cuts.{plain_cuts}
use Rattle.sweep_rules.specs.Gain.{IsGainFrom}
use Rattle.sweep_labels.specs.declared.ready_times.ReadyTimes.{ReadyTimes}
use Rattle.sweep_labels.specs.declared.step.Arc.{Arc}
use Rattle.sweep_labels.specs.Arcs.{IsGainBehind, AreArcs}
use Rattle.sweep_arcs.specs.declared.asked.ArcsAsked.{ArcsAsked}
use Rattle.sweep_arcs.specs.declared.gains.Gains.{Gains}
use Rattle.sweep_arcs.specs.declared.lane.Lane.{Lane}
use Rattle.sweep_arcs.specs.Ways.{IsWayLane}

-- the gain where the chamber stands for the way and is free at the minute, whoever is missing
pub record IsGainAt (ask : LineAsk) (way : Way) (minute gain : ℕ) : Type 0 where
  pub from : IsGainFrom ask.instance ask.chamber ask.cuts (λ s. false) ask.prices (stand_before way) minute gain

-- what is kept for a minute is the gain there
pub record AreGainsBy (ask : LineAsk) (way : Way) (row : List (Option ℕ)) : Type 0 where
  pub each : (minute gain : ℕ) → slice_index_or row minute None ≡ Some gain → IsGainAt ask way minute gain

-- the chamber whose gains they are
abbrev pub gains_ask : Gains → LineAsk
gains_ask gains = line_asked gains.values.case.now

-- the chamber has no line, at the root, and what is kept of its gains is right
pub record AreGainsKept (gains : Gains) : Type 0 where
  pub root : gains.values.case.now.depth ≡ 0
  pub values : AreEndValues gains.values
  pub up : AreGainsBy (gains_ask gains) Up gains.up.items.items
  pub down : AreGainsBy (gains_ask gains) Down gains.down.items.items

-- what the chamber is asked
abbrev pub ask_of : Lane → LineAsk
ask_of lane = line_asked lane.case.now

-- The chamber has no line, at the root; the ship sets are what its cuts forbid it; and what is kept of its gains and its ways is right.
pub record IsLane (lane : Lane) : Type 0 where
  pub root : lane.case.now.depth ≡ 0
  pub empty : lane.case.now.line.now ≡ []
  pub sets : AreForbidden lane.case.now.instance.now lane.case.now.index (plain_cuts lane.case.now.instance.now lane.case.now.cuts.now) lane.sets.items
  pub gains : AreGainsKept lane.gains
  pub asked : gains_ask lane.gains ≡ ask_of lane
  pub up : IsWayLane (ask_of lane) Up lane.up
  pub down : IsWayLane (ask_of lane) Down lane.down

-- the chamber is asked the same, and what it keeps is right
pub record IsSameLane (old new : Lane) : Type 0 where
  pub is : IsLane new
  pub same : ask_of new ≡ ask_of old

-- the gain of the chamber behind each label of these minutes
pub record HasGain (ask : LineAsk) (times : ReadyTimes) (gain : ℕ) : Type 0 where
  pub is : IsGainBehind ask.instance ask.cuts ask.prices ask.chamber times gain

-- the arcs that are asked for
pub record HasArcs (ask : LineAsk) (asked : ArcsAsked) (arcs : List Arc) : Type 0 where
  pub are : AreArcs ask.instance ask.cuts ask.prices ask.chamber asked.way asked.minute asked.served.bits asked.room arcs
