-- Uncut groups, listed by growing them ship by ship.
use Rattle.std.specs.Prelude.{ℕ, suc, ◌≡◌, ◌+◌, ◌*◌, ◌≤◌, ◌<◌, ◌⊎◌, true, List, [], ◌∷◌, ◌++◌, length, All, Contains, filter, slice_index_or}
use Rattle.std.specs.List.Sorted.{IsStrictlyIncreasing}
use Rattle.lock_model.specs.Fleet.{ship_at, chamber_at}
use Rattle.lock_model.specs.declared.instance.Instance.{Instance}
use Rattle.lock_model.specs.declared.group.Group.{Group}
use Rattle.lock_rules.specs.Arrival.{first_ships}
use Rattle.lock_rules.specs.Trace.{has_number}
use Rattle.lock_rules.specs.Children.{insert_number, with_ship}
use Rattle.price_rules.specs.Prices.{PriceList, is_missing, price_at}
use Rattle.price_groups.specs.Asks.{GroupAsk}
use Rattle.price_groups.specs.Sparing.{LacksSome}
use Rattle.price_groups.specs.Worth.{soonest_of}

-- the ship is one of the first k, or its number is below n
abbrev pub IsAllowed : Instance → ℕ → ℕ → ℕ → Type 0
IsAllowed I k n s = (has_number (first_ships I k) s ≡ true) ⊎ (s < n)

-- no price is above its ceiling
abbrev pub AreBelow : PriceList → PriceList → Type 0
AreBelow prices ceilings = (s : ℕ) → price_at prices s ≤ price_at ceilings s

-- The group is the base joined by missing ships of its way with numbers below n; the chamber may serve them
-- together, and no forbidden set is among them. It may be empty where the base is.
pub record IsGrown (I : Instance) (c k : ℕ) (sets : List (List ℕ)) (base : Group) (n : ℕ) (g : Group) : Type 0 where
  pub rising : IsStrictlyIncreasing g.ships
  pub known : All (λ s. s < length I.ships) g.ships
  pub few : length g.ships ≤ (chamber_at I c).most
  pub way : g.way ≡ base.way
  pub ways : All (λ s. (ship_at I s).way ≡ base.way) g.ships
  pub missed : All (LacksSome g.ships) sets
  pub keeps : filter (has_number (first_ships I k)) g.ships ≡ base.ships
  pub allowed : All (IsAllowed I k n) g.ships

-- One of several ships is missing and gains nothing: even at the ships' soonest end it is served for at least its price.
pub record HasIdler (I : Instance) (c k : ℕ) (prices : PriceList) (g : Group) : Type 0 where
  pub several : 2 ≤ length g.ships
  pub ship : ℕ
  pub held : Contains g.ships ship
  pub missing : is_missing I k ship ≡ true
  pub idle : price_at prices ship + 100 * (ship_at I ship).arrival ≤ 100 * soonest_of I c 0 g.ships

-- the ship is missing and gains nothing where it is served by the minute
abbrev pub IsIdleBy : Instance → ℕ → PriceList → ℕ → ℕ → Type 0
IsIdleBy I k prices s end = (is_missing I k s ≡ true) × (price_at prices s + 100 * (ship_at I s).arrival ≤ 100 * end)

-- the same at the ceilings
abbrev pub HasIdlerBy : GroupAsk → Group → Type 0
HasIdlerBy A g = HasIdler A.instance A.chamber A.depth A.ceilings g

-- these are all of them but some with a ship that gains nothing
pub record AreGrown (A : GroupAsk) (base : Group) (n : ℕ) (groups : List Group) : Type 0 where
  pub each : All (IsGrown A.instance A.chamber A.depth A.sets base n) groups
  pub whole : (g : Group) → IsGrown A.instance A.chamber A.depth A.sets base n g → (Contains groups g) ⊎ HasIdlerBy A g

-- the same by all ships of the instance
abbrev pub AreWhollyGrown : GroupAsk → Group → List Group → Type 0
AreWhollyGrown A base = AreGrown A base (length A.instance.ships)

-- the group has room for the ship, and no forbidden set is among them
pub record MayJoin (I : Instance) (c : ℕ) (sets : List (List ℕ)) (s : ℕ) (g : Group) : Type 0 where
  pub room : length g.ships < (chamber_at I c).most
  pub missed : All (LacksSome (insert_number s g.ships)) sets

-- The groups `old`, behind them those of the first i with ship n joined that may be, but for some with a ship that gains nothing.
pub record AreJoining (A : GroupAsk) (base : Group) (n : ℕ) (old : List Group) (i : ℕ) (groups : List Group) : Type 0 where
  pub each : All (IsGrown A.instance A.chamber A.depth A.sets base (suc n)) groups
  pub long : length old ≤ length groups
  pub first : (j : ℕ) (d : Group) → j < length old → slice_index_or groups j d ≡ slice_index_or old j d
  pub done : (j : ℕ) (d : Group) → j < i → j < length old → MayJoin A.instance A.chamber A.sets n (slice_index_or old j d)
      → (Contains groups (with_ship n (slice_index_or old j d))) ⊎ HasIdlerBy A (with_ship n (slice_index_or old j d))

-- a group that is grown from: none, or some of the first k ships, which the chamber may serve together
pub record IsBase (I : Instance) (c k : ℕ) (base : Group) : Type 0 where
  pub rising : IsStrictlyIncreasing base.ships
  pub known : All (λ s. s < length I.ships) base.ships
  pub few : length base.ships ≤ (chamber_at I c).most
  pub ways : All (λ s. (ship_at I s).way ≡ base.way) base.ships
  pub keeps : filter (has_number (first_ships I k)) base.ships ≡ base.ships

-- the node lacks the ship, and it has the way of the base
pub record IsNew (I : Instance) (k : ℕ) (base : Group) (s : ℕ) : Type 0 where
  pub missing : is_missing I k s ≡ true
  pub way : (ship_at I s).way ≡ base.way

-- the group was put behind the others, or it has a ship that gains nothing
abbrev pub IsPutJoined : GroupAsk → Group → List Group → List Group → Type 0
IsPutJoined A g old new = (new ≡ old ++ g ∷ []) ⊎ (HasIdlerBy A g × (new ≡ old))

-- the group is another one with the ship more, and that may be
abbrev pub IsJoinedBy : GroupAsk → ℕ → Group → Group → Type 0
IsJoinedBy A s g joined = MayJoin A.instance A.chamber A.sets s g × (joined ≡ with_ship s g)

-- the ship has joined the group behind all others, or it may not join it, or a ship gains nothing then
abbrev pub IsJoined : GroupAsk → ℕ → Group → List Group → List Group → Type 0
IsJoined A s g old new =
    (MayJoin A.instance A.chamber A.sets s g × (new ≡ old ++ with_ship s g ∷ []))
    ⊎ (((¬ MayJoin A.instance A.chamber A.sets s g) ⊎ HasIdlerBy A (with_ship s g)) × (new ≡ old))

-- the same of what groups are asked by
abbrev pub IsBaseIn : GroupAsk → Group → Type 0
IsBaseIn A = IsBase A.instance A.chamber A.depth

abbrev pub IsNewIn : GroupAsk → Group → ℕ → Type 0
IsNewIn A = IsNew A.instance A.depth

abbrev pub IsAllowedIn : GroupAsk → ℕ → ℕ → Type 0
IsAllowedIn A = IsAllowed A.instance A.depth
