use Rattle.std.proofs.Common.{◌≡◌, ◌≤◌, ap, sym, ◌∙◌, arith, All, subst}
use Rattle.bound_word.specs.Steps.{FindsOwn}
use Rattle.bound_word.specs.Seats.{Placed, Opened}
use Rattle.bound_word.proofs.RowLemmas.{least-le, least-all}
use Rattle.bound_word.proofs.StepLemmas.{lowers}
use Rattle.bound_word.proofs.table.BoundTable.lower.Goals as goal

pub fetch_min-requires : goal.fetch_min-requires
fetch_min-requires c = (
  ap (λ (p : Placed). p.table) c.seat.view_is ∙ c.requires ∙ sym (ap (λ (d : Opened). d.table) c.self.view_is),
  omega (arith, c.self.invariant.0),
  lowers c.self.inside.table.shared.key c.self.inside.table.shared.table_id.slots c.seat.inside.seat.id c.seat.inside.seat.me c.args.cost (omega (arith, c.seat.invariant)),
)

pub returns-clause-opening : goal.returns-clause-opening
returns-clause-opening c =
    let own = c.fetch_min.ensures.2.1 in
    subst (λ (p : Placed). c.fetch_min.result ≤ p.view.opening) c.seat.view_is (omega (arith, own, least-le c.seat.inside.seat.me.0.opening c.seat.inside.seat.me.0.posted))

pub returns-clause-posted : goal.returns-clause-posted
returns-clause-posted c =
    let own = c.fetch_min.ensures.2.1 in
    subst (λ (p : Placed). All (λ x. c.fetch_min.result ≤ x) p.view.posted) c.seat.view_is (least-all c.seat.inside.seat.me.0.opening c.fetch_min.result c.seat.inside.seat.me.0.posted own)

pub returns-clause-alone : goal.returns-clause-alone
returns-clause-alone c = subst (λ (p : Placed). FindsOwn p.view c.fetch_min.result) c.seat.view_is c.fetch_min.ensures.2.2
