use Rattle.std.proofs.Common.{rules, arith, ap, ◌∙◌, ℕ, List, length, ◌≤◌, ◌≡◌}
use Rattle.refute_rules.specs.Values.{spot_values}
use Rattle.spot_place.proofs.CountLemmas.{few-values}
use Rattle.spot_place.proofs.spot_case.SpotCase.value_count.Goals as goal

pub overflow_cast-result : goal.overflow_cast-result
overflow_cast-result c =
    let d = c.self.inside.deck in
    let few = few-values d c.self.invariant.limits in
    let same : length c.as_slice.result.now ≡ length (spot_values d) = ap (λ (vs : List ℕ). length vs) (c.as_slice.ensures.value ∙ c.self.invariant.valued) in
    let small : length c.as_slice.result.now ≤ 100001 = omega (arith, few, same) in
    search rules
