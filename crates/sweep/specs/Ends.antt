-- How a sweep begins and ends.
use Rattle.std.specs.Prelude.{ℕ, ◌≡◌, ◌+◌, ◌<◌, ◌≤◌, List, [], length, All, slice_index_or}
use Rattle.lock_model.specs.declared.instance.Instance.{Instance}
use Rattle.lock_model.specs.declared.group.Group.{Group}
use Rattle.price_rules.specs.Prices.{PriceList, PlainCut, flow_over}
use Rattle.price_terms.specs.Cuts.{plain_cuts}
use Rattle.price_groups.specs.Asks.{line_ask}
use Rattle.price_groups.specs.Asked.{line_asked}
use Rattle.price_groups.specs.declared.line_case.LineCase.{LineCase}
use Rattle.sweep_rules.specs.Uncut.{IsSwept, IsUncutPlan}
use Rattle.sweep_labels.specs.declared.arrivals.Arrivals.{Arrivals}
use Rattle.sweep_labels.specs.Coming.{ArriveIn}
use Rattle.sweep_arcs.specs.declared.lane.Lane.{Lane}
use Rattle.sweep_arcs.specs.Lanes.{ask_of, IsLane}
use Rattle.sweep.specs.declared.asked.SweepAsked.{SweepAsked}
use Rattle.sweep.specs.declared.late.LateShips.{LateShips}
use Rattle.sweep.specs.declared.plan.UncutPlan.{UncutPlan}
use Rattle.sweep.specs.declared.sweeping.SweepEnd.{SweepEnd}
use Rattle.sweep.specs.declared.sweeping.SweepEnd.TheVariants.{Swept, Cheaper}
use Rattle.sweep.specs.declared.sweeping.GoalsEnd.{GoalsEnd}
use Rattle.sweep.specs.declared.sweeping.GoalsEnd.TheVariants.{Reached, Found, Open}
use Rattle.sweep.specs.Bounds.{AreLanesFrom}
use Rattle.sweep.specs.Judging.{lines_in}

-- the same is asked where another cost is reached
abbrev pub from_cost : SweepAsked → ℕ → SweepAsked
from_cost asked first = record { instance = asked.instance; cuts = asked.cuts; prices = asked.prices; low = first; first = first; goal = asked.goal }

-- the case of chamber c without a line
pub record IsCase (asked : SweepAsked) (c : ℕ) (case : LineCase) : Type 0 where
  pub is : line_asked case ≡ line_ask asked.instance.now c (plain_cuts asked.instance.now asked.cuts.now) 0 asked.prices.now []
  pub root : case.depth ≡ 0
  pub empty : case.line.now ≡ []

-- a case without a line, at the root
pub record IsRootCase (case : LineCase) : Type 0 where
  pub root : case.depth ≡ 0
  pub empty : case.line.now ≡ []

-- these are asked the same as n chambers without lines, from a place on
pub record AreCasesFrom (I : Instance) (cuts : List PlainCut) (prices : PriceList) (first n : ℕ) (cases : List LineCase) : Type 0 where
  pub within : first + n ≤ length cases
  pub each : (c : ℕ) (d : LineCase) → c < n → line_asked (slice_index_or cases (first + c) d) ≡ line_ask I c cuts 0 prices []

-- behind the old cases those of the first n chambers were put
pub record HasCasesMore (I : Instance) (cuts : List PlainCut) (prices : PriceList) (n : ℕ) (old new : List LineCase) : Type 0 where
  pub count : length new ≡ length old + n
  pub kept : (k : ℕ) (d : LineCase) → k < length old → slice_index_or new k d ≡ slice_index_or old k d
  pub roots : All IsRootCase new
  pub own : AreCasesFrom I cuts prices (length old) n new

-- behind them those of all chambers by these prices
abbrev pub HasRowMore : SweepAsked → PriceList → List LineCase → List LineCase → Type 0
HasRowMore asked prices = HasCasesMore asked.instance.now (plain_cuts asked.instance.now asked.cuts.now) prices (length asked.instance.now.chambers)

-- those of all chambers by these prices, from a place on
abbrev pub IsRow : SweepAsked → PriceList → ℕ → List LineCase → Type 0
IsRow asked prices first = AreCasesFrom asked.instance.now (plain_cuts asked.instance.now asked.cuts.now) prices first (length asked.instance.now.chambers)

-- those of all chambers by all prices, and for the first n late ships those by the prices of early ships
pub record AreAllCases (asked : SweepAsked) (late : List LateShips) (n : ℕ) (cases : List LineCase) : Type 0 where
  pub roots : All IsRootCase cases
  pub own : IsRow asked asked.prices.now 0 cases
  pub rows : (k : ℕ) (d : LateShips) → k < n → IsRow asked (slice_index_or late k d).prices (slice_index_or late k d).first cases

-- the first n lanes are of these cases
pub record AreLanesBy (cases : List LineCase) (n : ℕ) (lanes : List Lane) : Type 0 where
  pub count : length lanes ≡ n
  pub is : (k : ℕ) (d : Lane) → k < n → IsLane (slice_index_or lanes k d)
  pub asked : (k : ℕ) (d : Lane) (e : LineCase) → k < n → ask_of (slice_index_or lanes k d) ≡ line_asked (slice_index_or cases k e)

-- the first lanes are all chambers that are asked for, without lines
abbrev pub AreLanesAsked : SweepAsked → List Lane → Type 0
AreLanesAsked asked = AreLanesFrom asked.instance.now (plain_cuts asked.instance.now asked.cuts.now) asked.prices.now 0 (length asked.instance.now.chambers)

-- the ships that the first n chambers wait for
pub record ArriveInFirst (I : Instance) (cuts : List PlainCut) (n : ℕ) (arrivals : List Arrivals) : Type 0 where
  pub count : length arrivals ≡ n
  pub each : (c : ℕ) (d : Arrivals) → c < n → ArriveIn I cuts c (slice_index_or arrivals c d)

-- those that all chambers wait for
abbrev pub ArriveInAll : SweepAsked → List Arrivals → Type 0
ArriveInAll asked = ArriveInFirst asked.instance.now (plain_cuts asked.instance.now asked.cuts.now) (length asked.instance.now.chambers)

-- The goal is swept by the cuts: no uncut plan costs less.
abbrev pub IsSweptBy : SweepAsked → ℕ → Type 0
IsSweptBy asked goal = IsSwept asked.instance.now (plain_cuts asked.instance.now asked.cuts.now) goal

-- the lines of a plan that was found
abbrev pub lines_of : UncutPlan → ℕ → List Group
lines_of plan = lines_in plan.lines.items

-- it is an uncut plan that costs less than the goal
pub record IsCheaper (asked : SweepAsked) (plan : UncutPlan) : Type 0 where
  pub uncut : IsUncutPlan asked.instance.now (plain_cuts asked.instance.now asked.cuts.now) (lines_of plan)
  pub cost : flow_over asked.instance.now (lines_of plan) ≡ plan.cost
  pub below : plan.cost < asked.goal

-- How the sweep of one cost after the other ended: the last one is swept, or a plan was found and its cost is swept. Nothing is said where it is open.
abbrev pub IsGoalsEnd : SweepAsked → GoalsEnd → Type 0
IsGoalsEnd asked Reached = IsSweptBy asked asked.goal
IsGoalsEnd asked (Found plan) = IsCheaper asked plan × IsSweptBy asked plan.cost
IsGoalsEnd asked (Open reached late) = Unit

-- How the sweep ended: the goal that was asked is swept, or an uncut plan costs less, and its cost is swept.
abbrev pub IsSweepEnd : SweepAsked → SweepEnd → Type 0
IsSweepEnd asked (Swept swept) = swept ≡ record { instance = asked.instance.now; cuts = asked.cuts.now; cost = asked.goal }
IsSweepEnd asked (Cheaper plan swept) = IsCheaper asked plan × (swept ≡ record { instance = asked.instance.now; cuts = asked.cuts.now; cost = plan.cost })
