-- What a loose line is worth to a chamber that stands so and is free at a minute, and the least of that.
use Rattle.std.specs.Prelude.{ℕ, ◌≡◌, ◌+◌, ◌-◌, ◌*◌, ◌≤◌, ◌<◌, max, true, ℤ, pos, ◌-ℤ◌, ◌≤ℤ◌, Some, None, List, length, All, sum_by, filter, ⊤}
use Rattle.std.specs.declared.option.Option.{Option}
use Rattle.std.specs.Option.{MatchOption}
use Rattle.lock_model.specs.Fleet.{ship_at}
use Rattle.lock_model.specs.declared.instance.Instance.{Instance}
use Rattle.lock_model.specs.declared.group.Group.{Group}
use Rattle.lock_model.specs.declared.way.Stand.{Stand}
use Rattle.lock_rules.specs.Lawful.{duration_of}
use Rattle.lock_rules.specs.Timetable.{start_of, last_arrival, timetable_from}
use Rattle.lock_rules.specs.Arrival.{first_ships}
use Rattle.lock_rules.specs.Trace.{has_number}
use Rattle.lock_rules.specs.Bound.{flow_of}
use Rattle.price_rules.specs.Prices.{PlainCut, PriceList, IsLoose, is_missing, price_at, paid_by, paid_in, charged_on, charged_by, charged_in}

-- the prices of the missing ships among these
abbrev pub paid_on : Instance → ℕ → PriceList → List ℕ → ℕ
paid_on I k prices ships = sum_by (price_at prices) (filter (is_missing I k) ships)

-- the arrivals of these ships, added
abbrev pub arrivals_of : Instance → List ℕ → ℕ
arrivals_of I ships = sum_by (λ s. (ship_at I s).arrival) ships

-- the earliest end of a group that comes next
abbrev pub end_after : Instance → ℕ → Stand → ℕ → Group → ℕ
end_after I c stand from g = start_of I c stand from g + duration_of I c g.ships

-- of a group that comes next, 100 times its ships' flow time and what it is charged, minus what it pays
abbrev pub worth_of : Instance → ℕ → ℕ → PriceList → Stand → ℕ → Group → ℤ
worth_of I c k prices stand from g =
    pos (100 * sum_by (λ s. end_after I c stand from g - (ship_at I s).arrival) g.ships + charged_by prices g) -ℤ pos (paid_by I k prices g)

-- of a line in its earliest timetable, 100 times the ships' flow time and what it is charged, minus what it pays
abbrev pub worth_from : Instance → ℕ → ℕ → PriceList → Stand → ℕ → List Group → ℤ
worth_from I c k prices stand from gs = pos (100 * flow_of I gs (timetable_from I c stand from gs) + charged_in prices gs) -ℤ pos (paid_in I k prices gs)

-- there is a number, and it is at most v
abbrev pub AtMost : Option ℤ → ℤ → Type 0
AtMost None v = ⊥
AtMost (Some a) v = a ≤ℤ v

-- some loose line is worth this
pub record IsWorth (I : Instance) (c : ℕ) (cuts : List PlainCut) (k : ℕ) (prices : PriceList)
    (stand : Stand) (from : ℕ) (line : List Group) (v : ℤ) : Type 0 where
  pub loose : List Group
  pub is_loose : IsLoose I c cuts k line loose
  pub worth : worth_from I c k prices stand from loose ≡ v

-- The least worth of the loose lines from this state on; nothing where there is no loose line.
pub record IsLeastWorth (I : Instance) (c : ℕ) (cuts : List PlainCut) (k : ℕ) (prices : PriceList)
    (stand : Stand) (from : ℕ) (line : List Group) (least : Option ℤ) : Type 0 where
  pub below : (loose : List Group) → IsLoose I c cuts k line loose → AtMost least (worth_from I c k prices stand from loose)
  pub reached : MatchOption least ⊤ (IsWorth I c cuts k prices stand from line)

-- a group of a node's line: some of the first k ships
pub record IsKeptGroup (I : Instance) (k : ℕ) (g : Group) : Type 0 where
  pub some : 1 ≤ length g.ships
  pub kept : All (λ s. has_number (first_ships I k) s ≡ true) g.ships

-- where the ship is missing, it is served for at least its price from this minute on
abbrev pub IsLateBy : Instance → ℕ → PriceList → ℕ → ℕ → Type 0
IsLateBy I k prices s minute = is_missing I k s ≡ true → price_at prices s + 100 * (ship_at I s).arrival ≤ 100 * minute

-- the same of each ship
pub record IsHorizon (I : Instance) (k : ℕ) (prices : PriceList) (horizon : ℕ) : Type 0 where
  pub late : (s : ℕ) → s < length I.ships → IsLateBy I k prices s horizon

-- The ships hs serve as well as the ships gs: they are no more and keep the same ships, arrive no later, take no
-- longer, and pay no less beyond what they are charged, with 100 for each minute of their arrivals.
pub record ServeAsWell (I : Instance) (k : ℕ) (prices : PriceList) (hs gs : List ℕ) : Type 0 where
  pub count : length hs ≤ length gs
  pub same : filter (has_number (first_ships I k)) hs ≡ filter (has_number (first_ships I k)) gs
  pub early : last_arrival I 0 hs ≤ last_arrival I 0 gs
  pub quick : sum_by (λ s. (ship_at I s).handling) hs ≤ sum_by (λ s. (ship_at I s).handling) gs
  pub pays : paid_on I k prices gs + charged_on prices hs + 100 * arrivals_of I gs ≤ paid_on I k prices hs + charged_on prices gs + 100 * arrivals_of I hs

-- the soonest end of these ships, where the chamber is ready no sooner than at the minute
abbrev pub soonest_of : Instance → ℕ → ℕ → List ℕ → ℕ
soonest_of I c from ss = max from (last_arrival I 0 ss) + duration_of I c ss

-- The same from a minute on, where arrivals until then make no difference, and whatever ships they keep; they may
-- pay less by what the ships that the others have more are worth at their soonest end.
pub record ServeFrom (I : Instance) (c k : ℕ) (prices : PriceList) (from : ℕ) (hs gs : List ℕ) : Type 0 where
  pub count : length hs ≤ length gs
  pub early : last_arrival I 0 hs ≤ max from (last_arrival I 0 gs)
  pub quick : sum_by (λ s. (ship_at I s).handling) hs ≤ sum_by (λ s. (ship_at I s).handling) gs
  pub pays : paid_on I k prices gs + charged_on prices hs + 100 * arrivals_of I gs + 100 * (length hs * soonest_of I c from gs)
      ≤ paid_on I k prices hs + charged_on prices gs + 100 * arrivals_of I hs + 100 * (length gs * soonest_of I c from gs)
