-- A run: the words, the source and the sink before and after it, and its status.
use Rattle.std.specs.Prelude.{ℕ, List}
use Rattle.std.specs.declared.option.Option.{Option}
use Rattle.std.specs.Io.KnownBytes.{Appends}
use Rattle.run_answers.specs.Sources.{Drained}
use Rattle.run_answers.specs.declared.status.Status.{Status}

-- a sink before and after a run: the bytes that it holds, where it tells them, and its count of faults
pub record Filled : Type 0 where
  pub held : Option (List ℕ)
  pub held_after : Option (List ℕ)
  pub faults : ℕ
  pub faults_after : ℕ

-- the same, by what sinks of a type tell: the bytes that they hold, and the count of faults
abbrev pub filled : {Snk : Type 0} → (Snk → Option (List ℕ)) → (Snk → ℕ) → Snk → Snk → Filled
filled held faults old new = record { held = held old; held_after = held new; faults = faults old; faults_after = faults new }

pub record Run : Type 0 where
  pub words : List (List ℕ)
  pub source : Drained
  pub sink : Filled
  pub status : Status

abbrev pub run_of : List (List ℕ) → Drained → Filled → Status → Run
run_of words source sink status = record { words = words; source = source; sink = sink; status = status }

-- the sink got this text
abbrev pub Got : Run → List ℕ → Type 0
Got run text = Appends run.sink.held run.sink.held_after text
