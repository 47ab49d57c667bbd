-- How far across the chamber a known y can be.
use Rattle.std.specs.Prelude.{ℕ, ◌*◌, ℤ, pos, neg_ℤ, ◌≤ℤ◌}

-- y after so many ships is within what their widths and gaps sum up to
pub record IsWithinReach (steps : ℕ) (y : ℤ) : Type 0 where
  pub low : neg_ℤ (pos (17179869184 * steps)) ≤ℤ y
  pub high : y ≤ℤ pos (17179869184 * steps)
