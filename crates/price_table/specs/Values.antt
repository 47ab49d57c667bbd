-- Values that are remembered for states.
use Rattle.std.specs.Prelude.{ℕ, ◌≡◌, ◌+◌, ◌-◌, ◌*◌, ◌≤◌, ◌<◌, ◌⊎◌, max, nat_eq, ℤ, pos, neg_ℤ, ◌+ℤ◌, ◌≤ℤ◌, true, Some, None}
use Rattle.std.specs.Prelude.{List, [], length, drop, slice_index_or}
use Rattle.lock_model.specs.declared.limits.TheConstants.{SHIPS}
use Rattle.lock_model.specs.declared.instance.Instance.{Instance}
use Rattle.lock_model.specs.declared.group.Group.{Group}
use Rattle.price_groups.specs.Asks.{LineAsk, group_end, group_worth, line_worth}
use Rattle.price_groups.specs.Worth.{IsWorth, IsLeastWorth}
use Rattle.price_successors.specs.Successors.{IsSuccessor, Leads}
use Rattle.price_successors.specs.Counted.{IsCounted}
use Rattle.price_successors.specs.SuccessorLists.{list_of}
use Rattle.lock_model.specs.declared.way.Stand.{Stand}
use Rattle.price_successors.specs.declared.successor.Successor.{Successor}
use Rattle.price_successors.specs.declared.successor_list.SuccessorList.{SuccessorList}
use Rattle.std.specs.HashMap.{get}
use Rattle.lock_model.specs.Fleet.{chamber_at}
use Rattle.lock_model.specs.declared.way.Way.{Way}
use Rattle.lock_model.specs.declared.way.Way.TheVariants.{Up, Down}
use Rattle.lock_model.specs.declared.way.Stand.TheVariants.{Low, High}
use Rattle.lock_rules.specs.Timetable.{ready_at}
use Rattle.price_table.specs.declared.state.State.{State}
use Rattle.price_table.specs.declared.ready.Ready.{Ready}
use Rattle.price_table.specs.declared.route.Route.{Route}
use Rattle.price_table.specs.declared.route.Threshold.{Threshold}
use Rattle.price_table.specs.declared.frame.Frame.{Frame}
use Rattle.price_table.specs.declared.values.Values.{Values}

-- What a line's own groups are worth at most, in hundredths of a minute: those that are served alone take less than
-- 10000000000 minutes each, and are charged 255000000 at the most.
abbrev pub most_worth : ℕ
most_worth = SHIPS * 1000255000000

-- The value of a state: the least worth of what is left of the line from place p on.
pub record IsValue (L : LineAsk) (horizon : ℕ) (p : ℕ) (stand : Stand) (from : ℕ) (v : ℤ) : Type 0 where
  pub least : IsLeastWorth L.instance L.chamber L.cuts L.depth L.prices stand from (drop p L.line) (Some v)
  pub low : pos 0 ≤ℤ (v +ℤ pos (808000000 * (horizon - from)))
  pub high : v ≤ℤ pos most_worth

abbrev pub side_of : Stand → ℕ
side_of Low = 0
side_of High = 1

-- a number that no other state has whose place is one of so many
abbrev pub key_of : ℕ → ℕ → Stand → ℕ → ℕ
key_of places place stand minute = (minute * places + place) * 2 + side_of stand

-- the value is remembered under the key, in the row or among the others
abbrev pub IsRemembered : Values → ℕ → ℤ → Type 0
IsRemembered values key v =
    ((place : ℕ) × (key ≡ values.start + place) × (place < length values.row.items) × (slice_index_or values.row.items place None ≡ Some v))
    ⊎ (get nat_eq values.others key ≡ Some v)

-- nothing is remembered, and there are so many places
pub record AreEmpty (places : ℕ) (values : Values) : Type 0 where
  pub wide : values.places ≡ places
  pub none : (key : ℕ) (v : ℤ) → ¬ IsRemembered values key v

-- what is remembered is the new value under its key, and what was remembered before
pub record Remembers (old new : Values) (key : ℕ) (v : ℤ) : Type 0 where
  pub wide : new.places ≡ old.places
  pub told : (other : ℕ) (u : ℤ) → IsRemembered new other u → ((key ≡ other) × (v ≡ u)) ⊎ IsRemembered old other u

-- what is remembered for a state is its value, and each place of the line has room
pub record AreValues (L : LineAsk) (horizon : ℕ) (values : Values) : Type 0 where
  pub wide : values.places ≡ length L.line + 1
  pub told : (p : ℕ) (stand : Stand) (minute : ℕ) (v : ℤ) → p ≤ length L.line
      → IsRemembered values (key_of values.places p stand minute) v → IsValue L horizon p stand minute v

-- the first minute for a way
abbrev pub minute_for : Ready → Way → ℕ
minute_for ready Up = ready.up
minute_for ready Down = ready.down

-- these are the first minutes at which chamber c may be ready in the state, and what is said to be always open has no closures
pub record IsReady (I : Instance) (c : ℕ) (ready : Ready) : Type 0 where
  pub value : (way : Way) → minute_for ready way ≡ ready_at (chamber_at I c) ready.state.stand ready.state.minute way
  pub small : (way : Way) → minute_for ready way ≤ max ready.state.minute 1000000 + 1000000
  pub open_always : ready.always_open ≡ true → (chamber_at I c).closures ≡ []

-- What a state is worth at most so far: some loose line is worth it, and the line's own groups alone are worth no less.
pub record IsBest (L : LineAsk) (horizon : ℕ) (p : ℕ) (stand : Stand) (minute : ℕ) (best : ℤ) : Type 0 where
  pub stop : best ≤ℤ line_worth L stand minute (drop p L.line)
  pub reached : IsWorth L.instance L.chamber L.cuts L.depth L.prices stand minute (drop p L.line) best
  pub low : pos 0 ≤ℤ (best +ℤ pos (808000000 * (horizon - minute)))
  pub high : best ≤ℤ pos most_worth

-- the same said of a state
abbrev pub IsValueOf : LineAsk → ℕ → State → ℤ → Type 0
IsValueOf L horizon state = IsValue L horizon state.place state.stand state.minute

abbrev pub IsBestOf : LineAsk → ℕ → State → ℤ → Type 0
IsBestOf L horizon state = IsBest L horizon state.place state.stand state.minute

abbrev pub IsCountedIn : LineAsk → State → ℤ → Successor → Type 0
IsCountedIn L state = IsCounted L state.stand state.minute state.place

-- when a group ends that comes next in the state, and what it and a line are worth
abbrev pub end_next : LineAsk → State → Group → ℕ
end_next L state = group_end L state.stand state.minute

abbrev pub worth_next : LineAsk → State → Group → ℤ
worth_next L state = group_worth L state.stand state.minute

abbrev pub line_worth_next : LineAsk → State → List Group → ℤ
line_worth_next L state = line_worth L state.stand state.minute

-- the successors that are looked at in the state
abbrev pub list_in : List SuccessorList → SuccessorList → State → List Successor
list_in successor_lists e state = list_of successor_lists e state.place state.minute

-- a state before the horizon, of which the first successors that are looked at are counted
pub record IsFrame (L : LineAsk) (horizon : ℕ) (successor_lists : List SuccessorList) (frame : Frame) : Type 0 where
  pub ready : IsReady L.instance L.chamber frame.ready
  pub place : frame.ready.state.place ≤ length L.line
  pub early : frame.ready.state.minute < horizon
  pub best : IsBestOf L horizon frame.ready.state frame.best
  pub counted : (j : ℕ) (d : Successor) (e : SuccessorList) → j < frame.next → j < length (list_in successor_lists e frame.ready.state)
      → IsCountedIn L frame.ready.state frame.best (slice_index_or (list_in successor_lists e frame.ready.state) j d)

-- a route from the state: where its successors lead, and the first minute for their way
pub record IsRoute (ready : Ready) (route : Route) : Type 0 where
  pub leads : Leads route.joins ready.state.place route.place
  pub minute : route.minute ≡ minute_for ready route.way

-- A successor of the route that ends no sooner than the threshold and is worth no less is counted.
pub record IsThreshold (L : LineAsk) (ready : Ready) (route : Route) (best : ℤ) (threshold : Threshold) : Type 0 where
  pub low : neg_ℤ (pos 2000000000000000) ≤ℤ threshold.worth
  pub high : threshold.worth ≤ℤ pos 2000000000000000
  pub over : (h : Successor) → IsSuccessor L h → h.joins ≡ route.joins → h.group.way ≡ route.way
      → threshold.end ≤ end_next L ready.state h.group → threshold.worth ≤ℤ worth_next L ready.state h.group
      → worth_next L ready.state h.group ≤ℤ pos 30000000000 → IsCountedIn L ready.state best h

-- the state's key among so many places
abbrev pub state_key : ℕ → State → ℕ
state_key places state = key_of places state.place state.stand state.minute

-- what the line's own groups from the state's place on are worth alone
abbrev pub worth_alone : LineAsk → State → ℤ
worth_alone L state = line_worth_next L state (drop state.place L.line)

-- a state before the horizon, at a place of the line or at its end
abbrev pub IsEarlyState : LineAsk → ℕ → State → Type 0
IsEarlyState L horizon state = (state.place ≤ length L.line) × (state.minute < horizon)

-- these are the successors that are looked at in the state, whatever stands in place of a list that isn't there
abbrev pub AreLookedAt : List SuccessorList → State → List Successor → Type 0
AreLookedAt successor_lists state successors = (e : SuccessorList) → successors ≡ list_in successor_lists e state

-- all successors that are looked at in the frame's state are counted
abbrev pub AreAllCounted : List SuccessorList → Frame → Type 0
AreAllCounted successor_lists frame = (e : SuccessorList) → length (list_in successor_lists e frame.ready.state) ≤ frame.next
