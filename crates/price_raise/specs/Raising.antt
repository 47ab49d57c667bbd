-- What an ascent keeps of the prices that were tried.
use Rattle.std.specs.Prelude.{◌≡◌, ℤ, ◌<ℤ◌, ◌≤ℤ◌}
use Rattle.price_raise.specs.declared.ascent.Ascent.{Ascent}

-- prices of a greater sum become the best ones; else the best ones stay
pub record IsWeighed (old : Ascent) (sum : ℤ) (new : Ascent) : Type 0 where
  pub better : old.best_sum <ℤ sum → (new.best ≡ old.tried) × (new.best_sum ≡ sum)
  pub kept : sum ≤ℤ old.best_sum → (new.best ≡ old.best) × (new.best_sum ≡ old.best_sum)
