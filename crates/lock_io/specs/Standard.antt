-- Std's readers and writers as a source and a sink.
use Rattle.std.specs.Prelude.{ℕ}

-- the reader or writer, and the count of faults
pub record Adapted (T : Type 0) : Type 0 where
  pub inner : T
  pub faults : ℕ
