-- Successors: uncut groups that may come next in a loose line, and what groups are grown from that do.
use Rattle.std.specs.Prelude.{ℕ, suc, ◌≡◌, ◌≤◌, Some, None, [], ◌∷◌, drop, filter, sum_by}
use Rattle.std.specs.declared.option.Option.{Option}
use Rattle.lock_model.specs.declared.instance.Instance.{Instance}
use Rattle.lock_model.specs.declared.group.Group.{Group}
use Rattle.lock_rules.specs.Lawful.{duration_of}
use Rattle.lock_rules.specs.Timetable.{last_arrival}
use Rattle.lock_rules.specs.Arrival.{first_ships}
use Rattle.lock_rules.specs.Trace.{has_number}
use Rattle.price_rules.specs.Prices.{charged_by}
use Rattle.price_successors.specs.declared.successor.Successor.{Successor}
use Rattle.price_groups.specs.Asks.{LineAsk, IsUncutIn}
use Rattle.price_groups.specs.Growing.{IsBase}
use Rattle.price_groups.specs.Sums.{rate_of}

-- The ships that the group keeps are none, or those of the line's group of the place that it joins, whose way it has.
abbrev pub Keeps : LineAsk → Option ℕ → Group → Type 0
Keeps L None g = filter (has_number (first_ships L.instance L.depth)) g.ships ≡ []
Keeps L (Some p) g = drop p L.line ≡ record { way = g.way; ships = filter (has_number (first_ships L.instance L.depth)) g.ships } ∷ drop (suc p) L.line

-- the sums of a successor
pub record AreSums (L : LineAsk) (successor : Successor) : Type 0 where
  pub duration : successor.duration ≡ duration_of L.instance L.chamber successor.group.ships
  pub last : successor.last ≡ last_arrival L.instance 0 successor.group.ships
  pub pays : successor.pays ≡ sum_by (rate_of L.instance L.depth L.prices) successor.group.ships
  pub short : successor.duration ≤ 9000000
  pub soon : successor.last ≤ 1000000
  pub charged : successor.charged ≡ charged_by L.prices successor.group
  pub fair : successor.pays ≤ 808000000
  pub light : successor.charged ≤ 255000000

-- a successor is an uncut group with its sums
pub record IsSuccessor (L : LineAsk) (successor : Successor) : Type 0 where
  pub uncut : IsUncutIn L successor.group
  pub keeps : Keeps L successor.joins successor.group
  pub sums : AreSums L successor

-- the group has the way of the base and keeps its ships
pub record IsOn (I : Instance) (k : ℕ) (base g : Group) : Type 0 where
  pub way : g.way ≡ base.way
  pub keeps : filter (has_number (first_ships I k)) g.ships ≡ base.ships

-- what groups are grown from that join there: nothing, or the line's group of that place
pub record IsBaseOf (L : LineAsk) (to : Option ℕ) (base : Group) : Type 0 where
  pub good : IsBase L.instance L.chamber L.depth base
  pub keeps : (g : Group) → IsOn L.instance L.depth base g → Keeps L to g

-- a successor that comes next at place p leads to place q
abbrev pub Leads : Option ℕ → ℕ → ℕ → Type 0
Leads None p q = p ≡ q
Leads (Some j) p q = (j ≡ p) × (suc p ≡ q)
