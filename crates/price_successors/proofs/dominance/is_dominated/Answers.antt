use Rattle.std.proofs.Common.{Contains, sym, subst, rules}
use Rattle.price_groups.specs.Asked.{line_asked}
use Rattle.price_successors.specs.Successors.{IsSuccessor}
use Rattle.price_successors.specs.Dominance.{Dominates}
use Rattle.price_successors.proofs.SuccessorLemmas.{served-by}
use Rattle.price_successors.proofs.dominance.is_dominated.Goals as goal

pub returns-then-dominates : goal.returns-then-dominates
returns-then-dominates c = λ _.
    let I = c.args.case.now.instance.now in
    let other = c.other-item.result in
    let serves : Dominates other c.args.successor.now = search rules in
    let held : Contains c.args.successors.now other = (c.loop-other.other-index, c.loop-other-test.true, sym c.other-item.is) in
    let first : IsSuccessor (line_asked c.args.case.now) other =
    subst (IsSuccessor (line_asked c.args.case.now)) (sym c.other-item.is) (c.requires.each c.loop-other.other-index other c.loop-other-test.true) in
    served-by (line_asked c.args.case.now) c.args.successors.now other c.args.successor.now held serves first c.requires.is
