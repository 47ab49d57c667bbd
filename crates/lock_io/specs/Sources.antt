-- What a source's answer means.
use Rattle.std.specs.Prelude.{ℕ, ◌≤◌, List, length, take}
use Rattle.std.specs.declared.option.Option.{Option}
use Rattle.std.specs.Io.KnownBytes.{Consumes, Keeps, IsAtEnd}
use Rattle.lock_io.specs.Faults.{next_count}
use Rattle.lock_io.specs.declared.source.Taken.{Taken}
use Rattle.lock_io.specs.declared.source.Taken.TheVariants.{Given, End, Failed}

-- the next n of the bytes that were left stand in the room
pub record GivesNext (n : ℕ) (before after : Option (List ℕ)) (room : List ℕ) : Type 0 where
  pub some : 1 ≤ n
  pub fits : n ≤ length room
  pub next : Consumes before after (take n room)

-- what an answer says of the bytes that were left before and after the call, and of the room: a failed call takes none
abbrev pub HandsOut : Taken → Option (List ℕ) → Option (List ℕ) → List ℕ → Type 0
HandsOut (Given n) before after room = GivesNext n before after room
HandsOut End before after room = IsAtEnd before × Keeps before after
HandsOut Failed before after room = Keeps before after

-- a count that rises at each failed call
abbrev pub taken_faults : Taken → ℕ → ℕ
taken_faults Failed faults = next_count faults
taken_faults _ faults = faults
