-- What is kept by minute.
use Rattle.std.specs.Prelude.{ℕ, ◌≡◌, ◌≢◌, ◌<◌, Option, Some, None, List, length, slice_index_or}

-- the row is long enough for the minute, and keeps what it kept
pub record IsLonger {T : Type 0} (minute : ℕ) (old new : List (Option T)) : Type 0 where
  pub long : minute < length new
  pub each : (m : ℕ) → slice_index_or new m None ≡ slice_index_or old m None

-- the row keeps the item for the minute, and for others what it kept
pub record IsKeptAt {T : Type 0} (minute : ℕ) (item : T) (old new : List (Option T)) : Type 0 where
  pub own : slice_index_or new minute None ≡ Some item
  pub others : (m : ℕ) → m ≢ minute → slice_index_or new m None ≡ slice_index_or old m None
