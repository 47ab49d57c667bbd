-- What a sink's answer means.
use Rattle.std.specs.Prelude.{ℕ, ◌≤◌, List, length, take}
use Rattle.std.specs.declared.option.Option.{Option}
use Rattle.std.specs.Io.KnownBytes.{Appends, Keeps}
use Rattle.lock_io.specs.Faults.{next_count}
use Rattle.lock_io.specs.declared.sink.Put.{Put}
use Rattle.lock_io.specs.declared.sink.Put.TheVariants.{Took, Failed}

-- the piece's first n bytes were appended
pub record AppendsFirst (n : ℕ) (before after : Option (List ℕ)) (piece : List ℕ) : Type 0 where
  pub some : 1 ≤ n
  pub fits : n ≤ length piece
  pub first : Appends before after (take n piece)

-- what an answer says of the bytes that were held before and after the call: a failed call appends none
abbrev pub TakesIn : Put → Option (List ℕ) → Option (List ℕ) → List ℕ → Type 0
TakesIn (Took n) before after piece = AppendsFirst n before after piece
TakesIn Failed before after piece = Keeps before after

-- a count that rises at each failed call
abbrev pub put_faults : Put → ℕ → ℕ
put_faults Failed faults = next_count faults
put_faults _ faults = faults
