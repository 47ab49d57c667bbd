-- What prices bound: how much a chamber's ways to go on may pay beyond their flow times and what they are charged.
use Rattle.std.specs.Prelude.{ℕ, ◌≡◌, ◌+◌, ◌*◌, ◌≤◌, ◌<◌, not, Bool, false, List, [], ◌∷◌, length, All, sum_by, filter}
use Rattle.lock_model.specs.declared.instance.Instance.{Instance}
use Rattle.lock_model.specs.declared.group.Group.{Group}
use Rattle.lock_model.specs.declared.way.Way.{Way}
use Rattle.lock_model.specs.declared.way.Stand.{Stand}
use Rattle.lock_rules.specs.Lawful.{stand_before}
use Rattle.lock_rules.specs.Timetable.{timetable_from}
use Rattle.lock_rules.specs.Arrival.{numbers_from}
use Rattle.lock_rules.specs.Bound.{flow_of}
use Rattle.price_rules.specs.Prices.{PlainCut, IsUncut, PriceList, price_at, paid_in, charged_on, charged_in}
use Rattle.sweep_rules.specs.Label.{Label}

-- uncut groups of missing ships, each as often as one likes
pub record IsWayOn (I : Instance) (c : ℕ) (cuts : List PlainCut) (served : ℕ → Bool) (gs : List Group) : Type 0 where
  pub uncut : All (IsUncut I c cuts) gs
  pub missing : All (λ g. All (λ s. served s ≡ false) g.ships) gs

-- Where chamber c stands so and is free at a minute, no way to go on pays more than 100 times its flow time, what it is charged and the gain, in
-- hundredths of a minute.
pub record IsGainFrom (I : Instance) (c : ℕ) (cuts : List PlainCut) (served : ℕ → Bool) (prices : PriceList) (stand : Stand) (from : ℕ)
    (gain : ℕ) : Type 0 where
  pub high : (gs : List Group) → IsWayOn I c cuts served gs
      → paid_in I 0 prices gs ≤ 100 * flow_of I gs (timetable_from I c stand from gs) + charged_in prices gs + gain

-- the earliest timetable of groups of chamber c, where it is ready for a first one by its way
abbrev pub timetable_after : Instance → ℕ → (Way → ℕ) → List Group → List (ℕ × ℕ)
timetable_after I c ready [] = []
timetable_after I c ready (g ∷ gs) = timetable_from I c (stand_before g.way) (ready g.way) (g ∷ gs)

-- the gain of chamber c behind a label: the same where it is ready by the way of the first group, as the label says
pub record IsGain (I : Instance) (c : ℕ) (cuts : List PlainCut) (label : Label) (prices : PriceList) (gain : ℕ) : Type 0 where
  pub high : (gs : List Group) → IsWayOn I c cuts label.served gs
      → paid_in I 0 prices gs ≤ 100 * flow_of I gs (timetable_after I c (label.ready c) gs) + charged_in prices gs + gain

-- the ships that aren't served, by number, and their prices, once each
abbrev pub ships_missing : Instance → (ℕ → Bool) → List ℕ
ships_missing I served = filter (λ s. not (served s)) (numbers_from 0 (length I.ships))

abbrev pub prices_missing : Instance → PriceList → (ℕ → Bool) → ℕ
prices_missing I prices served = sum_by (price_at prices) (ships_missing I served)

-- The prices of the triples that ways to go on may have: at least two of their ships aren't served. Of one that a group of the label has at most one
-- ship isn't.
abbrev pub triples_missing : Instance → PriceList → (ℕ → Bool) → ℕ
triples_missing I prices served = charged_on prices (ships_missing I served)

-- The label's bound is above the goal: 100 times its flow time and the prices of the missing ships, less the chambers' gains and the prices of the
-- triples that are missing, are more than 100 * (goal - 1).
pub record IsAbove (I : Instance) (label : Label) (prices : PriceList) (gains : ℕ → ℕ) (goal : ℕ) : Type 0 where
  pub high : 100 * goal + sum_by gains (numbers_from 0 (length I.chambers)) + triples_missing I prices label.served
      < 100 * label.flow + prices_missing I prices label.served + 100
