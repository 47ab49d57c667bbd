-- The minutes before which a chamber can't have ended its ships, as they come one by one.
use Rattle.std.specs.Prelude.{ℕ, ◌++◌, ◌+◌, ◌*◌, ◌≤◌, ◌<◌, List, length, slice_index_or}
use Rattle.std.specs.List.{flat_map}
use Rattle.lock_model.specs.declared.limits.TheConstants.{SHIPS}
use Rattle.lock_model.specs.declared.instance.Instance.{Instance}
use Rattle.lock_rules.specs.Arrival.{numbers_from}
use Rattle.lock_rules.specs.Throughput.{copies, places_from, places_on}
use Rattle.flow_bounds.specs.declared.places.Places.{Places}

-- the minutes of a chamber that are still to come
abbrev pub minutes_of : Places → List ℕ
minutes_of p = copies p.left p.minute ++ places_from p.most p.pass p.minute p.later

-- the minutes of all chambers
abbrev pub all_minutes : List Places → List ℕ
all_minutes ps = flat_map minutes_of ps

-- n minutes more can be taken; no minute is past the limits
pub record IsEnough (n : ℕ) (p : Places) : Type 0 where
  pub later : n ≤ p.later + 1
  pub left : 0 < n → 0 < p.left
  pub most : 0 < p.most
  pub pass : p.pass ≤ 1000000
  pub minute : p.minute + p.later * 1000000 ≤ (SHIPS + 1) * 1000000

abbrev pub no_places : Places
no_places = record { minute = 0; left = 0; later = 0; most = 0; pass = 0 }

abbrev pub places_at : List Places → ℕ → Places
places_at ps k = slice_index_or ps k no_places

-- the next minute of chamber number k
abbrev pub minute_at : List Places → ℕ → ℕ
minute_at ps k = (places_at ps k).minute

-- all minutes of an instance's chambers
abbrev pub all_places : Instance → List ℕ
all_places I = flat_map (places_on I) (numbers_from 0 (length I.chambers))
