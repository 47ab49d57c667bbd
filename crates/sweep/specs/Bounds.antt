-- What prices bound behind the labels of a sweep.
use Rattle.std.specs.Prelude.{ℕ, ℤ, pos, ◌+ℤ◌, ◌≤ℤ◌, Bool, ◌≡◌, ◌+◌, ◌*◌, ◌<◌, ◌≤◌, List, [], length, sum_by, slice_index_or}
use Rattle.lock_model.specs.declared.instance.Instance.{Instance}
use Rattle.lock_rules.specs.Arrival.{numbers_from}
use Rattle.price_rules.specs.Prices.{PriceList, PlainCut}
use Rattle.price_terms.specs.Cuts.{plain_cuts}
use Rattle.price_groups.specs.Asks.{line_ask}
use Rattle.sweep_rules.specs.Label.{Label}
use Rattle.sweep_rules.specs.Gain.{IsGain, prices_missing, triples_missing}
use Rattle.sweep_labels.specs.declared.label.Label.{Label as CodeLabel}
use Rattle.sweep_labels.specs.Labels.{label_of}
use Rattle.sweep_labels.specs.declared.step.Arc.{Arc}
use Rattle.sweep_labels.specs.Arcs.{AreArcs, gains_with}
use Rattle.sweep_arcs.specs.declared.asked.ArcsAsked.{ArcsAsked}
use Rattle.sweep_arcs.specs.declared.lane.Lane.{Lane}
use Rattle.sweep_arcs.specs.Lanes.{ask_of, IsLane, IsSameLane}
use Rattle.sweep.specs.declared.sweep_case.SweepCase.{SweepCase}
use Rattle.sweep.specs.declared.origin.Origin.{Origin}
use Rattle.sweep.specs.declared.origin.Missing.{Missing}

-- the cuts of the case
abbrev pub cuts_of : SweepCase → List PlainCut
cuts_of case = plain_cuts case.instance.now case.cuts.now

-- the lane is chamber c, without a line
pub record IsLaneOf (I : Instance) (cuts : List PlainCut) (prices : PriceList) (c : ℕ) (lane : Lane) : Type 0 where
  pub is : IsLane lane
  pub ask : ask_of lane ≡ line_ask I c cuts 0 prices []

-- these are n chambers from a place on
pub record AreLanesFrom (I : Instance) (cuts : List PlainCut) (prices : PriceList) (first n : ℕ) (lanes : List Lane) : Type 0 where
  pub within : first + n ≤ length lanes
  pub each : (c : ℕ) (d : Lane) → c < n → IsLaneOf I cuts prices c (slice_index_or lanes (first + c) d)

-- all chambers of the case are, from a place on
abbrev pub AreLanesOf : SweepCase → ℕ → List Lane → Type 0
AreLanesOf case first lanes = AreLanesFrom case.instance.now (cuts_of case) case.prices.now first (length case.instance.now.chambers) lanes

-- each lane is asked the same as before, and what it keeps is right if it was
pub record AreSameLanes (old new : List Lane) : Type 0 where
  pub count : length new ≡ length old
  pub each : (k : ℕ) (d : Lane) → k < length old → IsLane (slice_index_or old k d) → IsSameLane (slice_index_or old k d) (slice_index_or new k d)

-- the gain of chamber c
abbrev pub gain_in : List ℕ → ℕ → ℕ
gain_in gains c = slice_index_or gains c 0

-- these are gains of the first n chambers behind the label
pub record AreGainsTo (case : SweepCase) (label : Label) (n : ℕ) (gains : List ℕ) : Type 0 where
  pub each : (c : ℕ) → c < n → IsGain case.instance.now c (cuts_of case) label case.prices.now (gain_in gains c)

-- of all chambers
abbrev pub AreGains : SweepCase → Label → List ℕ → Type 0
AreGains case label gains = AreGainsTo case label (length case.instance.now.chambers) gains

-- the label's bound is above the goal where its missing ships and triples have these prices
pub record IsBoundAbove (case : SweepCase) (label : CodeLabel) (missing : Missing) (gains : List ℕ) (goal : ℕ) : Type 0 where
  pub high : 100 * goal + sum_by (gain_in gains) (numbers_from 0 (length case.instance.now.chambers)) + missing.triples < 100 * label.flow + missing.ships + 100

-- these are the prices of the ships and of the triples that a label misses
pub record IsMissing (case : SweepCase) (served : ℕ → Bool) (missing : Missing) : Type 0 where
  pub ships : missing.ships ≡ prices_missing case.instance.now case.prices.now served
  pub triples : missing.triples ≡ triples_missing case.instance.now case.prices.now served

-- the label's missing prices and gains are these
pub record IsOrigin (case : SweepCase) (from : Origin) : Type 0 where
  pub missing : IsMissing case (label_of from.label).served from.missing
  pub gains : AreGains case (label_of from.label) from.gains

-- The room is what the goal leaves beside the label, the missing ships and triples and the other chambers' gains.
pub record IsRoom (case : SweepCase) (from : Origin) (c goal : ℕ) (room : ℤ) : Type 0 where
  pub wide : pos (100 * goal + sum_by (gains_with (gain_in from.gains) c 0) (numbers_from 0 (length case.instance.now.chambers)) + from.missing.triples)
      ≤ℤ (room +ℤ pos (100 * from.label.flow + from.missing.ships + 100))

-- the arcs of chamber c that are asked for
abbrev pub AreArcsAsked : SweepCase → ℕ → ArcsAsked → List Arc → Type 0
AreArcsAsked case c asked arcs =
    AreArcs case.instance.now (cuts_of case) case.prices.now c asked.way asked.minute asked.served.bits asked.room arcs
