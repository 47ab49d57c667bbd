-- Plans as JSON values.
use Rattle.std.specs.Prelude.{ℕ, zero, suc, ◌≡◌, ◌≤◌, ◌==◌, List, [], ◌∷◌, length, nat_le, nat_lt, Option, None, Some, codes}
use Rattle.lock_model.specs.declared.way.Way.{Way}
use Rattle.lock_model.specs.declared.way.Way.TheVariants.{Up, Down}
use Rattle.lock_model.specs.declared.placement.Rank.{Rank}
use Rattle.lock_model.specs.declared.placement.Rank.TheVariants.{Left, Right}
use Rattle.lock_model.specs.declared.placement.Moor.{Moor}
use Rattle.lock_model.specs.declared.placement.Moor.TheVariants.{Quay, Ship}
use Rattle.lock_model.specs.declared.placement.Spot.{Spot}
use Rattle.lock_model.specs.declared.plan.Lockage.{Lockage}
use Rattle.lock_model.specs.declared.plan.Plan.{Plan}
use Rattle.serde_json.specs.Data.{Data, Items, no_items, item}
use Rattle.serde_json.specs.Find.{as_array}
use Rattle.cert_text.specs.Steps.{◌>>=◌, ◌>>◌, when}
use Rattle.cert_text.specs.Fields.{number_data, list_data, numbers_data, object_data, number_in, byte_in, word_in, all_in, value_at, has_members}
use Rattle.cert_text.specs.Ships.{ships_in}

abbrev pub way_number : Way → ℕ
way_number Up = 0
way_number Down = 1

abbrev pub rank_number : Rank → ℕ
rank_number Left = 0
rank_number Right = 1

-- 0 for the quay, and one more than the place of the host
abbrev pub moor_number : Moor → ℕ
moor_number Quay = 0
moor_number (Ship k) = suc k

abbrev pub spot_data : Spot → Data
spot_data s = numbers_data (s.x ∷ s.y ∷ rank_number s.rank ∷ moor_number s.moor ∷ [])

-- the keys of a lockage: its chamber and its ships, and then its spots, its start and its way
abbrev pub group_members : Lockage → List (List ℕ × Data) → List (List ℕ × Data)
group_members l more = (codes "chamber", number_data l.chamber) ∷ (codes "ships", numbers_data l.ships) ∷ more

abbrev pub turn_members : Lockage → List (List ℕ × Data)
turn_members l =
    (codes "spots", list_data spot_data l.spots) ∷ (codes "start", number_data l.start) ∷ (codes "way", number_data (way_number l.way)) ∷ []

abbrev pub lockage_data : Lockage → Data
lockage_data l = object_data (group_members l (turn_members l))

abbrev pub plan_data : Plan → Data
plan_data p = list_data lockage_data p.lockages

abbrev pub way_of : ℕ → Option Way
way_of zero = Some Up
way_of (suc zero) = Some Down
way_of _ = None

abbrev pub rank_of : ℕ → Option Rank
rank_of zero = Some Left
rank_of (suc zero) = Some Right
rank_of _ = None

abbrev pub moor_of : ℕ → Option Moor
moor_of zero = Some Quay
moor_of (suc k) = do
  when (nat_lt k 256)
  Some (Ship k)

abbrev pub way_in : Data → Option Way
way_in d = do
  n ← number_in d
  way_of n

abbrev pub rank_in : Data → Option Rank
rank_in d = do
  n ← number_in d
  rank_of n

abbrev pub moor_in : Data → Option Moor
moor_in d = do
  n ← number_in d
  moor_of n

-- x, y, rank and moor, and nothing after them
abbrev pub spot_items : Items → Option Spot
spot_items (item a (item b (item c (item d no_items)))) = do
  x ← word_in a
  y ← word_in b
  rank ← rank_in c
  moor ← moor_in d
  Some (record { x = x; y = y; rank = rank; moor = moor })
spot_items _ = None

abbrev pub spot_in : Data → Option Spot
spot_in d = do
  items ← as_array d
  spot_items items

-- so many spots
abbrev pub spots_items : ℕ → Items → Option (List Spot)
spots_items count items = do
  spots ← all_in spot_in items
  when (length spots == count)
  Some spots

abbrev pub spots_in : ℕ → Data → Option (List Spot)
spots_in count d = do
  items ← as_array d
  spots_items count items

unfoldable pub lockage_in : Data → Option Lockage
lockage_in d = do
  when (has_members 5 d)
  chamber ← value_at (codes "chamber") byte_in d
  ships ← value_at (codes "ships") ships_in d
  spots ← value_at (codes "spots") (spots_in (length ships)) d
  start ← value_at (codes "start") word_in d
  way ← value_at (codes "way") way_in d
  Some (record { chamber = chamber; way = way; ships = ships; start = start; spots = spots })

-- at most so many lockages
abbrev pub plan_items : ℕ → Items → Option Plan
plan_items most items = do
  lockages ← all_in lockage_in items
  when (nat_le (length lockages) most)
  Some (record { lockages = lockages })

abbrev pub plan_in : ℕ → Data → Option Plan
plan_in most d = do
  items ← as_array d
  plan_items most items

-- where so many lockages may be listed, what is written of the plan is read as it
abbrev pub IsPlanBack : Plan → Type 0
IsPlanBack p = (most : ℕ) → length p.lockages ≤ most → plan_in most (plan_data p) ≡ Some p
