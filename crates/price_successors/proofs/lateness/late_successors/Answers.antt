use Rattle.std.proofs.Common.{◌≡◌, ◌+◌, ◌++◌, [], ◌∷◌, suc, take, sym, ap, ◌∙◌, subst, arith}
use Rattle.std.proofs.Math.Seq.{take-suc}
use Rattle.price_groups.specs.Asked.{line_asked}
use Rattle.price_successors.specs.Successors.{IsSuccessor}
use Rattle.price_successors.specs.Dominance.{AreLate}
use Rattle.price_successors.proofs.LateLemmas.{late-next}
use Rattle.price_successors.proofs.lateness.late_successors.Goals as goal

pub loop-successor-preserved : goal.loop-successor-preserved
loop-successor-preserved c =
    let case = c.args.case.now in
    let I = case.instance.now in
    let successors = c.args.successors.now in
    let i = c.loop-successor.successor-index in
    let h = c.successor-item.result in
    let here = c.loop-successor-test.true in
    let up : suc i ≡ i + 1 = omega arith in
    let more : take i successors ++ h ∷ [] ≡ take (i + 1) successors = (λ j. take i successors ++ c.successor-item.is j ∷ []) ∙ sym (take-suc successors i h here) ∙ ap (λ n. take n successors) up in
    let is : IsSuccessor (line_asked case) h =
    subst (IsSuccessor (line_asked case)) (sym c.successor-item.is) (c.requires.each i h here) in
    subst (λ cs. AreLate (line_asked case) c.args.late cs c.put_late.new.lates.items) more
    (late-next (line_asked case) c.args.late (take i successors) h c.loop-successor.lates.items c.put_late.new.lates.items is c.in_ok-put_late.ensures c.loop-successor.invariant)
