-- Labels of a sweep, and how they go on.
use Rattle.std.specs.Prelude.{ℕ, ◌≡◌, ◌+◌, ◌-◌, ◌≤◌, ◌<◌, ◌||◌, max, Bool, false, nat_eq, nat_lt, if◌then◌else◌, List, [], ◌∷◌, length, All, sum_by}
use Rattle.lock_model.specs.Fleet.{ship_at, chamber_at}
use Rattle.lock_model.specs.declared.instance.Instance.{Instance}
use Rattle.lock_model.specs.declared.group.Group.{Group}
use Rattle.lock_model.specs.declared.way.Way.{Way}
use Rattle.lock_rules.specs.Lawful.{duration_of, stand_before, stand_after}
use Rattle.lock_rules.specs.Timetable.{ready_at, start_of}
use Rattle.lock_rules.specs.Trace.{has_number}
use Rattle.price_rules.specs.Prices.{PlainCut, Spares, IsUncut}

-- which ships are served, by chamber and way the least minute at which a next lockage may start, and the flow time of the served ships
pub record Label : Type 0 where
  pub served : ℕ → Bool
  pub ready : ℕ → Way → ℕ
  pub flow : ℕ

-- ship s is missing, has this way, and no cut hits it alone in chamber c
pub record IsWanted (I : Instance) (cuts : List PlainCut) (served : ℕ → Bool) (c : ℕ) (way : Way) (s : ℕ) : Type 0 where
  pub known : s < length I.ships
  pub missing : served s ≡ false
  pub same : (ship_at I s).way ≡ way
  pub alone : All (Spares I c (s ∷ [])) cuts

-- `at` is the minute `low`, or later but not past both `low` and the first arrival of a ship that is wanted. Where none is wanted any minute will do.
pub record IsReadyFrom (I : Instance) (cuts : List PlainCut) (served : ℕ → Bool) (c : ℕ) (way : Way) (low at : ℕ) : Type 0 where
  pub after : (s : ℕ) → IsWanted I cuts served c way s → low ≤ at
  pub before : (s : ℕ) → IsWanted I cuts served c way s → at ≤ max low (ship_at I s).arrival

-- a first label: it serves nobody, and its chambers are ready as they open
pub record IsFirstLabel (I : Instance) (cuts : List PlainCut) (label : Label) : Type 0 where
  pub served : (s : ℕ) → s < length I.ships → label.served s ≡ false
  pub ready : (c : ℕ) → c < length I.chambers → (way : Way)
      → IsReadyFrom I cuts label.served c way (ready_at (chamber_at I c) (chamber_at I c).stands (chamber_at I c).opens way) (label.ready c way)
  pub flow : label.flow ≡ 0

-- the label may go on by this group of chamber c: an uncut group of missing ships
pub record CanGoOn (I : Instance) (cuts : List PlainCut) (label : Label) (c : ℕ) (g : Group) : Type 0 where
  pub chamber : c < length I.chambers
  pub uncut : IsUncut I c cuts g
  pub missing : All (λ s. label.served s ≡ false) g.ships

-- the first free minute for the group from the label's minute and its ships' arrivals on, the end from there, and its ships' flow times
abbrev pub start_on : Instance → Label → ℕ → Group → ℕ
start_on I label c g = start_of I c (stand_before g.way) (label.ready c g.way) g

abbrev pub end_on : Instance → Label → ℕ → Group → ℕ
end_on I label c g = start_on I label c g + duration_of I c g.ships

abbrev pub flow_on : Instance → Label → ℕ → Group → ℕ
flow_on I label c g = sum_by (λ s. end_on I label c g - (ship_at I s).arrival) g.ships

-- The label `next` is the label gone on by this group of chamber c: chambers after c start no sooner than it, chambers before c later, so that lockages come in the order of start and chamber.
pub record IsGoneOn (I : Instance) (cuts : List PlainCut) (label : Label) (c : ℕ) (g : Group) (next : Label) : Type 0 where
  pub served : (s : ℕ) → s < length I.ships → next.served s ≡ (label.served s || has_number g.ships s)
  pub own : (way : Way) → IsReadyFrom I cuts next.served c way (ready_at (chamber_at I c) (stand_after g.way) (end_on I label c g) way) (next.ready c way)
  pub later : (d : ℕ) → c < d → d < length I.chambers → (way : Way)
      → IsReadyFrom I cuts next.served d way (max (label.ready d way) (start_on I label c g)) (next.ready d way)
  pub sooner : (d : ℕ) → d < c → (way : Way)
      → IsReadyFrom I cuts next.served d way (max (label.ready d way) (start_on I label c g + 1)) (next.ready d way)
  pub flow : next.flow ≡ label.flow + flow_on I label c g

-- the label gone on by this group of chamber c, with no minute raised to an arrival
abbrev pub gone_on : Instance → Label → ℕ → Group → Label
gone_on I label c g = record {
  served = λ s. label.served s || has_number g.ships s;
  ready = λ d way.
      if nat_eq d c then ready_at (chamber_at I c) (stand_after g.way) (end_on I label c g) way
      else (if nat_lt c d then max (label.ready d way) (start_on I label c g) else max (label.ready d way) (start_on I label c g + 1));
  flow = label.flow + flow_on I label c g;
}
