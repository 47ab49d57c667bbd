-- What is written of a certificate that is accepted, and of an open one that stands.
use Rattle.std.specs.Prelude.{ℕ, List, ◌++◌, codes, decimal}

-- an accepted certificate
unfoldable pub accepted_text : ℕ → List ℕ
accepted_text cost = codes "accepted cost " ++ decimal cost ++ codes "\n"

-- the low and the cost of an open certificate
unfoldable pub lower_text : ℕ → ℕ → List ℕ
lower_text low cost = codes "lower " ++ decimal low ++ codes " cost " ++ decimal cost ++ codes "\n"
