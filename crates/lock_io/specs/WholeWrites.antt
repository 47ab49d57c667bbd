-- What a writing that failed left in its sink.
use Rattle.std.specs.Prelude.{ℕ, ◌<◌, List, length, take}
use Rattle.std.specs.declared.option.Option.{Option}
use Rattle.std.specs.Io.KnownBytes.{Appends}

-- fewer bytes than there are were appended, from the first on
pub record AppendsProperPrefix (before after : Option (List ℕ)) (bytes : List ℕ) : Type 0 where
  pub count : ℕ
  pub proper : count < length bytes
  pub front : Appends before after (take count bytes)
