use Rattle.std.proofs.Common.{◌≡◌, Contains, subst, rules}
use Rattle.lock_rules.specs.Plan.{times_in}
use Rattle.near_plan.proofs.GroupLemmas.{lacked}
use Rattle.price_search.proofs.seeding.joined.Goals as goal

pub with_ship-requires-clause-absent : goal.with_ship-requires-clause-absent
with_ship-requires-clause-absent c =
    let lacks : ¬ Contains c.as_slice.result.now c.args.ship = search rules in
    subst (λ ships. times_in ships c.args.ship ≡ 0) c.as_slice.ensures.value (lacked c.as_slice.result.now c.args.ship lacks)
