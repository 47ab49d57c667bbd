-- Lists of ships.
use Rattle.std.specs.Prelude.{ℕ, suc, ◌&&◌, Bool, true, List, [], ◌∷◌, length, nat_le, Option, Some}
use Rattle.lock_model.specs.declared.limits.TheConstants.{MOST}
use Rattle.lock_model.specs.Limits.{is_between}
use Rattle.serde_json.specs.Data.{Data, Items}
use Rattle.serde_json.specs.Find.{as_array}
use Rattle.cert_text.specs.Steps.{◌>>=◌, ◌>>◌, when}
use Rattle.cert_text.specs.Fields.{byte_in, all_in}

-- the numbers rise, and the first is at least low
abbrev pub rises_from : ℕ → List ℕ → Bool
rises_from low [] = true
rises_from low (s ∷ ships) = nat_le low s && rises_from (suc s) ships

-- one to eight ships, rising
abbrev pub are_rising : List ℕ → Bool
are_rising ships = is_between 1 MOST (length ships) && rises_from 0 ships

abbrev pub ships_of : Items → Option (List ℕ)
ships_of items = do
  ships ← all_in byte_in items
  when (are_rising ships)
  Some ships

abbrev pub ships_in : Data → Option (List ℕ)
ships_in d = do
  items ← as_array d
  ships_of items
