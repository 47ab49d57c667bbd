-- In which order the ships of a lockage can come into their chamber. A ship is told by its place in the lockage's deck.
use Rattle.std.specs.Prelude.{ℕ, zero, suc, ◌≡◌, ◌+◌, ◌-◌, ◌≤◌, ◌<◌, Bool, false, ◌&&◌, ◌||◌, List, [], ◌∷◌, length, nat_eq, nat_le, nat_lt, if◌then◌else◌, slice_index_or, remove, ⊤}
use Rattle.lock_model.specs.Fleet.{ship_at, chamber_at}
use Rattle.lock_model.specs.Placement.{spot_at}
use Rattle.lock_model.specs.declared.instance.Instance.{Instance}
use Rattle.lock_model.specs.declared.placement.Moor.{Moor}
use Rattle.lock_model.specs.declared.placement.Moor.TheVariants.{Quay, Ship}
use Rattle.lock_model.specs.declared.plan.Lockage.{Lockage}
use Rattle.lock_model.specs.declared.way.Way.{Way}
use Rattle.lock_model.specs.declared.way.Way.TheVariants.{Up, Down}
use Rattle.lock_rules.specs.Arrival.{numbers_from}
use Rattle.list_laws.specs.Among.{IsAmong}
use Rattle.day_play.specs.Order.{put_each}
use Rattle.day_play.specs.Lawful.{ship_of}

-- None of these stands before one after which it has to come.
abbrev pub Respects : (ℕ → ℕ → Type 0) → List ℕ → Type 0
Respects After [] = ⊤
Respects After (k ∷ ks) = ((j : ℕ) → IsAmong (k ∷ ks) j → After k j → ⊥) × Respects After ks

-- ship k is a guest of ship j
abbrev pub IsGuest : Lockage → ℕ → ℕ → Type 0
IsGuest l k j = (spot_at l.spots k).moor ≡ Ship j

module _ (I : Instance) (l : Lockage) where
  -- along the chamber, ship k ends where ship j begins or before
  abbrev pub EndsBy : ℕ → ℕ → Type 0
  EndsBy k j = (spot_at l.spots k).x + (ship_at I (ship_of l k)).length ≤ (spot_at l.spots j).x

  -- across it, ship k begins before ship j ends
  abbrev pub BeginsWithin : ℕ → ℕ → Type 0
  BeginsWithin k j = (spot_at l.spots k).y < (spot_at l.spots j).y + (ship_at I (ship_of l j)).width

  -- Ship k lies wholly between ship j and the gate by which ships of this way come in: going up that at the low end, where x is 0, going down that at the high end.
  abbrev pub LiesBefore : Way → ℕ → ℕ → Type 0
  LiesBefore Up k j = EndsBy k j
  LiesBefore Down k j = EndsBy j k

  -- Ship k, once it is moored, BLOCKS ship j, which comes straight along the chamber: it lies before it, and across the chamber they overlap. The side gap isn't asked.
  pub record Blocks (k j : ℕ) : Type 0 where
    pub before : LiesBefore l.way k j
    pub begins : BeginsWithin k j
    pub other : BeginsWithin j k

  -- AN ORDER IN WHICH ALL SHIPS CAN COME IN: each once, each host before its guests, and with room to come in: none is blocked by one before it.
  pub record CanComeIn (ks : List ℕ) : Type 0 where
    pub count : length ks ≡ length l.ships
    pub all : (k : ℕ) → k < length l.ships → IsAmong ks k
    pub hosts : Respects (IsGuest l) ks
    pub room : Respects Blocks ks

-- as tests

abbrev pub hosted_by : Moor → ℕ → Bool
hosted_by Quay j = false
hosted_by (Ship h) j = nat_eq h j

module _ (I : Instance) (l : Lockage) where
  abbrev pub ends_by : ℕ → ℕ → Bool
  ends_by k j = nat_le ((spot_at l.spots k).x + (ship_at I (ship_of l k)).length) (spot_at l.spots j).x

  abbrev pub begins_within : ℕ → ℕ → Bool
  begins_within k j = nat_lt (spot_at l.spots k).y ((spot_at l.spots j).y + (ship_at I (ship_of l j)).width)

  abbrev pub lies_before : Way → ℕ → ℕ → Bool
  lies_before Up k j = ends_by k j
  lies_before Down k j = ends_by j k

  abbrev pub blocks : ℕ → ℕ → Bool
  blocks k j = lies_before l.way k j && (begins_within k j && begins_within j k)

  -- whether ship k has to come after ship j: as its guest, or since it would block it
  abbrev pub comes_after : ℕ → ℕ → Bool
  comes_after k j = hosted_by (spot_at l.spots k).moor j || blocks k j

-- whether k has to come after one of these
abbrev pub after_any : (ℕ → ℕ → Bool) → ℕ → List ℕ → Bool
after_any after k [] = false
after_any after k (j ∷ js) = after k j || after_any after k js

-- the index of the first of ks that has to come after none of js, or their number where there is none
abbrev pub first_ready : (ℕ → ℕ → Bool) → List ℕ → List ℕ → ℕ
first_ready after js [] = 0
first_ready after js (k ∷ ks) = if after_any after k js then suc (first_ready after js ks) else 0

-- from where the ship at place k begins, along the chamber, to the end across from the gate by which it comes in: the deeper it lies the less
abbrev pub end_distance : Instance → Lockage → Way → ℕ → ℕ
end_distance I l Up k = (chamber_at I l.chamber).length - (spot_at l.spots k).x
end_distance I l Down k = (spot_at l.spots k).x

module _ (I : Instance) (l : Lockage) where
  -- the deepest ship first, then by number
  abbrev pub by_depth : List ℕ
  by_depth = put_each (end_distance I l l.way) [] (numbers_from 0 (length l.ships))

  -- the index of the next of these: of the first that has to come after none of them, else 0
  abbrev pub next_of : List ℕ → ℕ
  next_of ks = let ready = first_ready (comes_after I l) ks ks in if nat_lt ready (length ks) then ready else 0

  -- n of these, one after the other
  abbrev pub in_turn : ℕ → List ℕ → List ℕ
  in_turn zero ks = []
  in_turn (suc n) ks = slice_index_or ks (next_of ks) 0 ∷ in_turn n (remove ks (next_of ks))
