-- The number that a word writes.
use Rattle.std.specs.Prelude.{ℕ, ◌+◌, ◌*◌, ◌-◌, Bool, List, fold, Result, Ok}
use Rattle.std.specs.List.{list_all}
use Rattle.lock_model.specs.Limits.{is_between}
use Rattle.line_text.specs.Steps.{◌>>◌, check}

abbrev pub is_digit : ℕ → Bool
is_digit b = is_between 48 57 b

-- the number that digits write, leading zeros allowed
abbrev pub value : List ℕ → ℕ
value digits = fold (λ n digit. 10 * n + (digit - 48)) 0 digits

-- a number from low to high, with the faults of a word that is not all digits, and of another number
unfoldable pub number : {E : Type 0} → E → E → ℕ → ℕ → List ℕ → Result ℕ E
number not_digits out_of_range low high word = do
  check (list_all is_digit word) not_digits
  check (is_between low high (value word)) out_of_range
  Ok (value word)
