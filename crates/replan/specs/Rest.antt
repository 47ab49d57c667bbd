-- The rest of an instance: the chambers as the kept lockages leave them, and the ships that these don't serve.
use Rattle.std.specs.Prelude.{ℕ, ◌≡◌, ◌+◌, ◌-◌, ◌↔◌, List, [], length, map, filter, max, nat_eq, sum_by, IsNone, IfSome}
use Rattle.lock_model.specs.Fleet.{ship_at, chamber_at}
use Rattle.lock_model.specs.declared.chamber.Chamber.{Chamber}
use Rattle.lock_model.specs.declared.instance.Instance.{Instance}
use Rattle.lock_model.specs.declared.plan.Plan.{Plan}
use Rattle.lock_model.specs.declared.ship.Ship.{Ship}
use Rattle.lock_rules.specs.Arrival.{numbers_from}
use Rattle.lock_rules.specs.Lines.{line_of}
use Rattle.lock_rules.specs.Plan.{served_in, cost_of}
use Rattle.chamber_times.specs.FirstBreak.{stand_after_all, done_after_all}
use Rattle.replan.specs.declared.remainder.Residual.{Residual}
use Rattle.replan.specs.Kept.{CanBeKept}

-- The chamber opens at the end of its last kept lockage by start, and stands as that one leaves it.
abbrev pub chamber_after : Instance → Plan → ℕ → Chamber
chamber_after I K c = record (chamber_at I c) {
  stands = stand_after_all (chamber_at I c).stands (line_of K c);
  opens = done_after_all I c (chamber_at I c).opens (line_of K c);
}

abbrev pub chambers_after : Instance → Plan → List Chamber
chambers_after I K = map (chamber_after I K) (numbers_from 0 (length I.chambers))

-- the ships that no kept lockage serves, in instance order
abbrev pub ships_left : Instance → Plan → List ℕ
ships_left I K = filter (λ s. nat_eq (served_in K.lockages s) 0) (numbers_from 0 (length I.ships))

-- a ship that arrives at minute M or later
abbrev pub from_minute : ℕ → Ship → Ship
from_minute M s = record s { arrival = max s.arrival M }

-- these ships of the instance, none of which arrives before minute M
abbrev pub ships_from : Instance → ℕ → List ℕ → List Ship
ships_from I M ss = map (λ s. from_minute M (ship_at I s)) ss

-- the rest after the kept plan K and minute M
pub record IsRest (I : Instance) (K : Plan) (M : ℕ) (R : Instance) : Type 0 where
  pub chambers : R.chambers ≡ chambers_after I K
  pub ships : R.ships ≡ ships_from I M (ships_left I K)

-- by how much the ship arrives later in the rest
abbrev pub delay_of : Instance → ℕ → ℕ → ℕ
delay_of I M s = (from_minute M (ship_at I s)).arrival - (ship_at I s).arrival

-- what the kept plan costs, and the delays of the ships of the rest
abbrev pub added_of : Instance → Plan → ℕ → ℕ
added_of I K M = cost_of I K + sum_by (delay_of I M) (ships_left I K)

-- What is left of the instance after the kept plan K and minute M. There is no rest where all ships are served.
pub record IsLeft (I : Instance) (K : Plan) (M : ℕ) (r : Residual) : Type 0 where
  pub can : CanBeKept I K
  pub kept : r.kept ≡ K
  pub numbers : r.numbers ≡ ships_left I K
  pub rest : IfSome r.rest (IsRest I K M)
  pub done : IsNone r.rest ↔ (ships_left I K ≡ [])
  pub added : r.added ≡ added_of I K M
