use Rattle.std.proofs.Common.{◌≡◌, length, sym, ◌∙◌, subst, arith}
use Rattle.price_groups.specs.Asked.{line_asked}
use Rattle.price_successors.specs.Successors.{IsSuccessor}
use Rattle.price_successors.specs.Enough.{HasOne, HavePut}
use Rattle.price_successors.proofs.SuccessorLemmas.{put-start, put-next}
use Rattle.price_successors.proofs.dominance.put_each.Goals as goal

pub loop-successor-init : goal.loop-successor-init
loop-successor-init c =
    let case = c.args.case.now in
    let I = case.instance.now in
    put-start (line_asked case) c.args.more.now c.args.successors.now.items c.requires.each

pub put-requires-clause-is : goal.put-requires-clause-is
put-requires-clause-is c =
    let case = c.args.case.now in
    let I = case.instance.now in
    subst (IsSuccessor (line_asked case)) (sym (c.copy.ensures ∙ c.successor-item.is)) (c.requires.others c.loop-successor.successor-index c.successor-item.result c.loop-successor-test.true)

pub loop-successor-preserved : goal.loop-successor-preserved
loop-successor-preserved c =
    let case = c.args.case.now in
    let I = case.instance.now in
    let one = subst (λ h. HasOne (line_asked case) h c.loop-successor.successors.items c.put.new.successors.items) c.copy.ensures c.in_ok-put.ensures in
    put-next (line_asked case) c.args.more.now c.loop-successor.successor-index c.successor-item.result c.args.successors.now.items c.loop-successor.successors.items c.put.new.successors.items c.loop-successor-test.true c.successor-item.is c.loop-successor.invariant one

pub returns : goal.returns
returns c =
    let case = c.args.case.now in
    let I = case.instance.now in
    let all : c.loop-successor.successor-index ≡ length c.args.more.now = omega (arith, c.loop-successor-test.false, c.loop-successor.auto.successor-index-end) in
    subst (λ i. HavePut (line_asked case) c.args.more.now i c.args.successors.now.items c.loop-successor.successors.items) all c.loop-successor.invariant
