-- The plan that a node's lines make at the earliest, once each group has its spots.
use Rattle.std.specs.Prelude.{ℕ, ◌+◌, ◌<◌, List, [], ◌∷◌, length, All}
use Rattle.lock_model.specs.Fleet.{chamber_at}
use Rattle.lock_model.specs.Fitting.{deck_of}
use Rattle.lock_model.specs.Placement.{IsLegalPlacement}
use Rattle.lock_model.specs.Cargo.{HasNoClash}
use Rattle.lock_model.specs.declared.instance.Instance.{Instance}
use Rattle.lock_model.specs.declared.group.Group.{Group}
use Rattle.lock_model.specs.declared.placement.Spot.{Spot}
use Rattle.lock_model.specs.declared.way.Stand.{Stand}
use Rattle.lock_model.specs.declared.plan.Lockage.{Lockage}
use Rattle.lock_model.specs.declared.plan.Plan.{Plan}
use Rattle.lock_rules.specs.Timetable.{start_of}
use Rattle.lock_rules.specs.Lawful.{stand_after, duration_of}
use Rattle.std.specs.List.{flat_map}
use Rattle.lock_rules.specs.Arrival.{numbers_from}
use Rattle.lock_rules.specs.Node.{line_at}

-- the lockages of a line of groups at the earliest, with the spots of a choice, where chamber c stands so and is done at `from`
abbrev pub lockages_from : Instance → ℕ → (Group → List Spot) → Stand → ℕ → List Group → List Lockage
lockages_from I c spots stand from [] = []
lockages_from I c spots stand from (g ∷ gs) =
    let start = start_of I c stand from g in
    record { chamber = c; way = g.way; ships = g.ships; start = start; spots = spots g }
    ∷ lockages_from I c spots (stand_after g.way) (start + duration_of I c g.ships) gs

-- all lockages of chamber c
abbrev pub lockages_on : Instance → ℕ → (Group → List Spot) → List Group → List Lockage
lockages_on I c spots line = lockages_from I c spots (chamber_at I c).stands (chamber_at I c).opens line

-- the plan of a node's lines at the earliest, with the spots of a choice for each chamber and group
abbrev pub plan_of : Instance → (ℕ → Group → List Spot) → List (List Group) → Plan
plan_of I spots lines = record { lockages = flat_map (λ c. lockages_on I c (spots c) (line_at lines c)) (numbers_from 0 (length I.chambers)) }

-- each group of the lines lies legally at the chosen spots, and no two ships of it clash
pub record AllFit (I : Instance) (spots : ℕ → Group → List Spot) (lines : List (List Group)) : Type 0 where
  pub placed : (c : ℕ) → c < length I.chambers → All (λ g. IsLegalPlacement (deck_of I c g.ships) (spots c g)) (line_at lines c)
  pub clear : (c : ℕ) → c < length I.chambers → All (λ g. HasNoClash (deck_of I c g.ships)) (line_at lines c)
