-- Steps one after the other, of which the first that fails gives the result.
use Rattle.std.specs.Prelude.{Bool, true, false, Result, Ok, Err}
use Rattle.line_text.specs.declared.progress.Progress.{Progress}
use Rattle.line_text.specs.declared.progress.Progress.TheVariants.{More, Ended}

infixl 10 ◌>>=◌
abbrev pub ◌>>=◌ : {A B E : Type 0} → Result A E → (A → Result B E) → Result B E
Ok x >>= next = next x
Err e >>= next = Err e

infixl 10 ◌>>◌
abbrev pub ◌>>◌ : {A B E : Type 0} → Result A E → Result B E → Result B E
Ok x >> next = next
Err e >> next = Err e

-- fails with this fault where the test does
abbrev pub check : {E : Type 0} → Bool → E → Result (Unit {0}) E
check true fault = Ok tt
check false fault = Err fault

-- what comes after a line, by whether the text goes on
abbrev pub proceed : {A : Type 0} → Progress → A → A → A
proceed More more ended = more
proceed Ended more ended = ended
