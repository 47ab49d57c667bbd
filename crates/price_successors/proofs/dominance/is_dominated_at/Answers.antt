use Rattle.std.proofs.Common.{Contains, sym, subst}
use Rattle.price_terms.specs.Cuts.{plain_cuts}
use Rattle.price_groups.specs.Asked.{line_asked}
use Rattle.price_successors.specs.Successors.{IsSuccessor}
use Rattle.price_successors.proofs.SuccessorLemmas.{served-by}
use Rattle.price_successors.proofs.dominance.is_dominated_at.Goals as goal

pub returns-in-Some : goal.returns-in-Some
returns-in-Some c = λ told.
    let case = c.args.case.now in
    let I = case.instance.now in
    let cuts = plain_cuts I case.cuts.now in
    let successors = c.args.successors.now in
    let place = c.in-Some.place in
    let other = c.index-successors-place.result in
    let held : Contains successors other = (place, c.if-place-successors.true, sym c.index-successors-place.is) in
    let first : IsSuccessor (line_asked case) other = subst (IsSuccessor (line_asked case)) (sym c.index-successors-place.is) (c.requires.each place other c.if-place-successors.true) in
    served-by (line_asked case) successors other c.args.successor.now held (c.dominates.ensures told) first c.requires.is
