use Rattle.std.proofs.Common.{◌≡◌, ◌+◌, ◌++◌, [], ◌∷◌, suc, take, sym, ap, ◌∙◌, subst, arith}
use Rattle.std.proofs.Math.Seq.{take-suc}
use Rattle.price_successors.specs.SuccessorLists.{AreFor}
use Rattle.price_successors.proofs.SuccessorListLemmas.{for-next}
use Rattle.price_successors.proofs.successor_lists.successors_for.Goals as goal

pub loop-successor-preserved : goal.loop-successor-preserved
loop-successor-preserved c =
    let successors = c.args.successors.now in
    let i = c.loop-successor.successor-index in
    let h = c.successor-item.result in
    let here = c.loop-successor-test.true in
    let up : suc i ≡ i + 1 = omega arith in
    let more : take i successors ++ h ∷ [] ≡ take (i + 1) successors = (λ j. take i successors ++ c.successor-item.is j ∷ []) ∙ sym (take-suc successors i h here) ∙ ap (λ n. take n successors) up in
    subst (λ cs. AreFor c.args.place cs c.put_for.new.fors.items) more
    (for-next c.args.place (take i successors) h c.loop-successor.fors.items c.put_for.new.fors.items c.in_ok-put_for.ensures c.loop-successor.invariant)
