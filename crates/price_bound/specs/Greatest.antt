-- The greatest of the costs that a node reaches.
use Rattle.std.specs.Prelude.{ℕ, ◌≡◌, ◌≤◌, ◌⊎◌}
use Rattle.price_terms.specs.Claim.{Claim, IsReached}

-- Of the costs up to `most` that are reached it is the greatest, and 0 where none is; `claim` says what is claimed of a cost.
pub record IsGreatestReached (claim : ℕ → Claim) (most cost : ℕ) : Type 0 where
  pub low : cost ≤ most
  pub known : (cost ≡ 0) ⊎ IsReached (claim cost)
  pub greatest : (other : ℕ) → other ≤ most → IsReached (claim other) → other ≤ cost
