use Rattle.std.proofs.Common.{◌≡◌, ◌∙◌, ap, sym, subst}
use Rattle.lock_rules.specs.Plan.{IsLegal}
use Rattle.lock_rules.specs.Singles.{singles_plan, singles_from, first_standings}
use Rattle.lock_rules.proofs.SinglesLemmas.{singles-legal}
use Rattle.first_plan.proofs.opening.singles_plan.Goals as goal

pub returns-clause-legal : goal.returns-clause-legal
returns-clause-legal c =
    let I = c.args.instance.now in
    let lockages : c.singles_in.result ≡ (singles_plan I).lockages = c.singles_in.ensures ∙ ap (singles_from I (first_standings I)) (c.as_slice.ensures.value ∙ c.arrival_order-order.ensures.value) in
    let plan : record { lockages = c.singles_in.result } ≡ singles_plan I = λ i. record { lockages = lockages i } in
    subst (IsLegal I) (sym plan) (singles-legal I c.requires)
