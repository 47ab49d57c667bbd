use Rattle.std.proofs.Common.{◌+◌, sym, subst}
use Rattle.price_successors.specs.SuccessorLists.{AreMade}
use Rattle.price_successors.proofs.SuccessorListLemmas.{made-next}
use Rattle.price_successors.proofs.successor_lists.successor_lists_of.Goals as goal

pub loop-place-preserved : goal.loop-place-preserved
loop-place-preserved c =
    let successors = c.args.successors.now in
    let late_lists = c.args.late_lists.now in
    let n = c.loop-place.place in
    subst (AreMade successors late_lists (n + 1)) (sym c.in_ok-append.ensures)
    (made-next successors late_lists n c.loop-place.successor_lists.items c.in_ok-successor_list.field-0 c.in_ok-successor_list.ensures c.loop-place.invariant)
