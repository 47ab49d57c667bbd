-- What was weighed stays so while the prices are raised.
use Rattle.std.proofs.Common.{◌≡◌, ℤ, ◌∙◌}
use Rattle.price_raise.specs.declared.ascent.Ascent.{Ascent}
use Rattle.price_raise.specs.Raising.{IsWeighed}

pub weighed_still : (old mid new : Ascent) (sum : ℤ) → IsWeighed old sum mid → new.best ≡ mid.best → new.best_sum ≡ mid.best_sum → IsWeighed old sum new
weighed_still old mid new sum is best best_sum = record {
  better = λ more. let now = is.better more in (best ∙ now.0, best_sum ∙ now.1);
  kept = λ less. let now = is.kept less in (best ∙ now.0, best_sum ∙ now.1);
}
