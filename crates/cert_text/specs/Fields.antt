-- Numbers, lists and objects as JSON values, and JSON values read as these.
use Rattle.std.specs.Prelude.{ℕ, ◌==◌, Bool, false, List, [], ◌∷◌, map, nat_lt, Option, Some, option_and_then, is_some}
use Rattle.std.specs.Option.{option_map_or}
use Rattle.serde_json.specs.Data.{Data, number, unsigned, array, object, Items, no_items, item, Members, no_members, member}
use Rattle.serde_json.specs.View.{items_of}
use Rattle.serde_json.specs.Find.{get, as_number, as_u64, as_array, as_object}
use Rattle.serde_json.specs.Events.{members_len}
use Rattle.cert_text.specs.Steps.{◌>>=◌, ◌>>◌, when}

-- a number in digits alone
abbrev pub number_data : ℕ → Data
number_data n = number (unsigned n)

abbrev pub list_data : {A : Type 0} → (A → Data) → List A → Data
list_data f xs = array (items_of (map f xs))

abbrev pub numbers_data : List ℕ → Data
numbers_data = list_data number_data

abbrev pub members : List (List ℕ × Data) → Members
members [] = no_members
members (m ∷ more) = member m.0 m.1 (members more)

-- an object of these keys and values
abbrev pub object_data : List (List ℕ × Data) → Data
object_data ms = object (members ms)

-- the number that a value writes in digits alone, without sign, point and exponent
abbrev pub number_in : Data → Option ℕ
number_in d = option_and_then as_u64 (as_number d)

abbrev pub number_below : ℕ → Data → Option ℕ
number_below bound d = do
  n ← number_in d
  when (nat_lt n bound)
  Some n

-- a u8 and a u32
abbrev pub byte_in : Data → Option ℕ
byte_in = number_below 256

abbrev pub word_in : Data → Option ℕ
word_in = number_below 4294967296

-- all items of a list, each read by f
abbrev pub all_in : {A : Type 0} → (Data → Option A) → Items → Option (List A)
all_in f no_items = Some []
all_in f (item d more) = do
  x ← f d
  xs ← all_in f more
  Some (x ∷ xs)

-- an array whose items f reads all
abbrev pub list_in : {A : Type 0} → (Data → Option A) → Data → Option (List A)
list_in f d = option_and_then (all_in f) (as_array d)

-- the value at a key, read by f
abbrev pub value_at : {A : Type 0} → List ℕ → (Data → Option A) → Data → Option A
value_at key f d = option_and_then f (get key d)

-- an object with so many keys
abbrev pub has_members : ℕ → Data → Bool
has_members n d = option_map_or (λ ms. members_len ms == n) (as_object d) false

abbrev pub has_key : Data → List ℕ → Bool
has_key d key = is_some (get key d)
