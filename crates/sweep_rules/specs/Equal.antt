-- Equal ships, and labels that go on by the earlier of them first.
use Rattle.std.specs.Prelude.{ℕ, ◌≡◌, ◌<◌, ◌⊎◌, Bool, false, nat_eq, if◌then◌else◌, List, length, All, Contains, map}
use Rattle.lock_model.specs.Fleet.{ship_at, chamber_at}
use Rattle.lock_model.specs.Fitting.{size_of, IsNoRoomier}
use Rattle.lock_model.specs.declared.instance.Instance.{Instance}
use Rattle.lock_model.specs.declared.group.Group.{Group}
use Rattle.price_rules.specs.Prices.{PlainCut}

-- Two ships of the same way, size, handling and cargo, of which a arrives first, or at once with b and with the lower number.
pub record IsEqualBefore (I : Instance) (a b : ℕ) : Type 0 where
  pub way : (ship_at I a).way ≡ (ship_at I b).way
  pub size : size_of (ship_at I a) ≡ size_of (ship_at I b)
  pub handling : (ship_at I a).handling ≡ (ship_at I b).handling
  pub order : ((ship_at I a).arrival < (ship_at I b).arrival) ⊎ (((ship_at I a).arrival ≡ (ship_at I b).arrival) × (a < b))

-- b in the place of a, and a in the place of b
abbrev pub swapped : ℕ → ℕ → ℕ → ℕ
swapped a b s = if nat_eq s a then b else (if nat_eq s b then a else s)

-- one of the cuts has the ships of the cut with a and b swapped, of their own sizes, and hits each chamber that the cut hits
pub record HasSwapped (I : Instance) (cuts : List PlainCut) (a b : ℕ) (cut : PlainCut) : Type 0 where
  pub other : PlainCut
  pub held : Contains cuts other
  pub ships : All (λ s. Contains cut.ships (swapped a b s)) other.ships
  pub sizes : other.deck.ships ≡ map (λ s. size_of (ship_at I s)) other.ships
  pub tight : (c : ℕ) → IsNoRoomier (chamber_at I c) cut.deck → IsNoRoomier (chamber_at I c) other.deck

-- with each cut that hits, the cuts have the same with two equal ships swapped
pub record AreSwapped (I : Instance) (cuts : List PlainCut) : Type 0 where
  pub each : (a b : ℕ) → a < length I.ships → b < length I.ships → IsEqualBefore I a b → All (HasSwapped I cuts a b) cuts

-- with each ship the group has all equal ships before it that are missing
pub record IsInOrder (I : Instance) (served : ℕ → Bool) (g : Group) : Type 0 where
  pub first : (a b : ℕ) → a < length I.ships → IsEqualBefore I a b → Contains g.ships b → served a ≡ false → Contains g.ships a
