-- Plans whose lockages name their ships in rising order, as their type keeps them.
use Rattle.std.specs.Prelude.{ℕ, ◌<◌, length}
use Rattle.std.specs.List.Sorted.{IsStrictlyIncreasing}
use Rattle.lock_model.specs.declared.plan.Plan.{Plan}
use Rattle.lock_rules.specs.Lines.{lockage_at}

-- the ships of each lockage rise
pub record AreRising (P : Plan) : Type 0 where
  pub each : (p : ℕ) → p < length P.lockages → IsStrictlyIncreasing (lockage_at P p).ships
