use Rattle.std.proofs.Common.{[], subst}
use Rattle.price_groups.specs.Asked.{line_asked}
use Rattle.price_successors.specs.Enough.{HaveMore}
use Rattle.price_successors.proofs.SuccessorLemmas.{more-ordered}
use Rattle.price_successors.proofs.choosing.ordered.Goals as goal

pub returns : goal.returns
returns c =
    let case = c.args.extension.now.case.now in
    let I = case.instance.now in
    more-ordered (line_asked case) c.args.joins c.args.list.now.base [] c.add_grown.new.successors.items c.order.new.successors.items c.in_ok-order.ensures
    (subst (λ old. HaveMore (line_asked case) c.args.joins c.args.list.now.base old c.add_grown.new.successors.items) c.new-successors.ensures.items c.in_ok-add_grown.ensures)
