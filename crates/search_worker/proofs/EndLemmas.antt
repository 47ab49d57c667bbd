-- What is said of a worker's hand as its node ends, or doesn't.
use Rattle.std.proofs.Common.{Bool, true, false}
use Rattle.std.specs.Bool.{⊤}
use Rattle.price_search.specs.Holding.{Ends}

-- nothing is said of either end
pub ends_anyhow : {Hand : Type 0} (old new : Hand) (closed : Bool) → Ends (λ _ _. ⊤) (λ _ _. ⊤) old new closed
ends_anyhow old new true = λ began held. tt
ends_anyhow old new false = λ began held. tt
