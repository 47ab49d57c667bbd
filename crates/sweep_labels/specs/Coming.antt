-- The ships that a way of a chamber waits for, and minutes that are raised to the first arrival of those that are missing.
use Rattle.std.specs.Prelude.{ℕ, ◌≡◌, ◌≤◌, ◌<◌, Bool, true, List, length, slice_index_or}
use Rattle.lock_model.specs.Fleet.{ship_at}
use Rattle.lock_model.specs.declared.limits.TheConstants.{SHIPS}
use Rattle.lock_model.specs.declared.instance.Instance.{Instance}
use Rattle.lock_model.specs.declared.way.Way.{Way}
use Rattle.lock_model.specs.declared.way.Way.TheVariants.{Up, Down}
use Rattle.price_rules.specs.Prices.{PlainCut}
use Rattle.sweep_rules.specs.Label.{IsWanted, IsReadyFrom}
use Rattle.sweep_labels.specs.declared.arrivals.Coming.{Coming}
use Rattle.sweep_labels.specs.declared.arrivals.Arrivals.{Arrivals}
use Rattle.sweep_labels.specs.declared.ready_times.ReadyTimes.{ReadyTimes}
use Rattle.sweep_labels.specs.Ships.{is_in}

abbrev pub no_coming : Coming
no_coming = record { ship = 0; arrival = 0 }

abbrev pub coming_at : List Coming → ℕ → Coming
coming_at items k = slice_index_or items k no_coming

-- the ships stand by rising arrival
pub record AreByArrival (items : List Coming) : Type 0 where
  pub rising : (j k : ℕ) → j < k → k < length items → (coming_at items j).arrival ≤ (coming_at items k).arrival

-- the ship is listed, with its arrival
pub record IsListed (I : Instance) (items : List Coming) (s : ℕ) : Type 0 where
  pub place : ℕ
  pub within : place < length items
  pub ship : (coming_at items place).ship ≡ s
  pub arrival : (coming_at items place).arrival ≡ (ship_at I s).arrival

-- Each ship that chamber c may want for the way is listed, by rising arrival; others may be.
pub record AreComing (I : Instance) (cuts : List PlainCut) (c : ℕ) (way : Way) (items : List Coming) : Type 0 where
  pub by_arrival : AreByArrival items
  pub whole : (served : ℕ → Bool) (s : ℕ) → IsWanted I cuts served c way s → IsListed I items s

-- none of the first n is missing
pub record AreServed (items : List Coming) (bits n : ℕ) : Type 0 where
  pub each : (k : ℕ) → k < n → (coming_at items k).ship < SHIPS → is_in bits (coming_at items k).ship ≡ true

-- none of the first n is missing, and the next arrives at this minute
pub record ComesAt (items : List Coming) (bits a : ℕ) : Type 0 where
  pub place : ℕ
  pub within : place < length items
  pub before : AreServed items bits place
  pub arrival : (coming_at items place).arrival ≡ a

-- Whatever chamber and way the ships are listed for, `at` is the minute `low` raised to the first arrival of those that are missing.
pub record IsRaised (items : List Coming) (bits low at : ℕ) : Type 0 where
  pub from : (I : Instance) (cuts : List PlainCut) (c : ℕ) (way : Way) → length I.ships ≤ SHIPS → AreComing I cuts c way items → IsReadyFrom I cuts (is_in bits) c way low at

-- the same for both ways
pub record AreRaised (arrivals : Arrivals) (bits : ℕ) (low : Way → ℕ) (times : ReadyTimes) : Type 0 where
  pub up : IsRaised arrivals.up.items.items bits (low Up) times.up
  pub down : IsRaised arrivals.down.items.items bits (low Down) times.down

-- both ways' ships of chamber c are listed
pub record ArriveIn (I : Instance) (cuts : List PlainCut) (c : ℕ) (arrivals : Arrivals) : Type 0 where
  pub up : AreComing I cuts c Up arrivals.up.items.items
  pub down : AreComing I cuts c Down arrivals.down.items.items

-- those of all chambers are
pub record AllArrive (I : Instance) (cuts : List PlainCut) (arrivals : List Arrivals) : Type 0 where
  pub each : (c : ℕ) (d : Arrivals) → c < length I.chambers → ArriveIn I cuts c (slice_index_or arrivals c d)
