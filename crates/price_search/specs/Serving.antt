-- Where prices may serve.
use Rattle.std.specs.Prelude.{ℕ, ◌+◌, ◌<◌, ◌≤◌}
use Rattle.price_search.specs.declared.pricing.Pricing.{Pricing}

-- rounds may be made at a node of this depth of a search for so many ships: five ships or more are
-- missing, some round is left, and the sets of ships weren't too many at a node as deep
pub record MayServe (pricing : Pricing) (depth : ℕ) (ships : ℕ) : Type 0 where
  pub missing : depth + 5 ≤ ships
  pub left : 0 < pricing.left
  pub deep : pricing.from ≤ depth
