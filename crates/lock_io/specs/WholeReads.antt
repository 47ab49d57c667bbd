-- What a reading that was refused took from its source.
use Rattle.std.specs.Prelude.{ℕ, ◌≡◌, ◌<◌, ◌≤◌, List, length}
use Rattle.std.specs.declared.option.Option.{Option}
use Rattle.std.specs.Io.KnownBytes.{Consumes}
use Rattle.lock_io.specs.declared.read.ReadError.{ReadError}
use Rattle.lock_io.specs.declared.read.ReadError.TheVariants.{ReadFault, TooLong, NoMemory}

-- so many bytes were handed out: more than the limit exactly where the error says so
abbrev pub IsCutAt : ReadError → ℕ → ℕ → Type 0
IsCutAt (TooLong most) limit count = (most ≡ limit) × (limit < count)
IsCutAt ReadFault limit count = count ≤ limit
IsCutAt NoMemory limit count = count ≤ limit

-- a front of what was left is gone, which is longer than the limit exactly where the error says so
pub record LosesFront (error : ReadError) (limit : ℕ) (before after : Option (List ℕ)) : Type 0 where
  pub front : List ℕ
  pub gone : Consumes before after front
  pub cut : IsCutAt error limit (length front)
