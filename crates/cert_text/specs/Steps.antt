-- Steps one after the other, of which the first that finds nothing ends the search.
use Rattle.std.specs.Prelude.{Bool, true, false, Option, None, Some, Result, Ok, Err}

infixl 10 ◌>>=◌
abbrev pub ◌>>=◌ : {A B : Type 0} → Option A → (A → Option B) → Option B
None >>= next = None
Some x >>= next = next x

infixl 10 ◌>>◌
abbrev pub ◌>>◌ : {A B : Type 0} → Option A → Option B → Option B
None >> next = None
Some x >> next = next

-- goes on only where the test holds
abbrev pub when : Bool → Option (Unit {0})
when true = Some tt
when false = None

-- what was found, or else this fault
abbrev pub or_fault : {A E : Type 0} → E → Option A → Result A E
or_fault e None = Err e
or_fault e (Some x) = Ok x

-- the same result, with the fault under f
abbrev pub fault_under : {A E F : Type 0} → (E → F) → Result A E → Result A F
fault_under f (Ok x) = Ok x
fault_under f (Err e) = Err (f e)
