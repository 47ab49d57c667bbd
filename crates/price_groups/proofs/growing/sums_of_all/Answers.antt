use Rattle.std.proofs.Common.{◌≡◌, ◌+◌, ◌++◌, [], ◌∷◌, suc, take, sym, ap, ◌∙◌, subst, arith}
use Rattle.std.proofs.Math.Seq.{take-suc}
use Rattle.price_groups.specs.Sums.{AreWeighed}
use Rattle.price_groups.proofs.WeighLemmas.{weighed-none, weighed-more}
use Rattle.price_groups.proofs.growing.sums_of_all.Goals as goal

pub loop-group-init : goal.loop-group-init
loop-group-init c =
    let case = c.args.extension.now.case.now in
    subst (AreWeighed case.instance.now case.index []) (sym c.new-sums.ensures.items) (weighed-none case.instance.now case.index)

pub loop-group-preserved : goal.loop-group-preserved
loop-group-preserved c =
    let case = c.args.extension.now.case.now in
    let I = case.instance.now in
    let groups = c.args.groups.now in
    let i = c.loop-group.group-index in
    let here = c.loop-group-test.true in
    let g = c.group-item.result in
    let up : suc i ≡ i + 1 = omega arith in
    let more : take i groups ++ g ∷ [] ≡ take (i + 1) groups = (λ j. take i groups ++ c.group-item.is j ∷ []) ∙ sym (take-suc groups i g here) ∙ ap (λ n. take n groups) up in
    subst (λ gs. AreWeighed I case.index gs c.append.new.list.items) more
    (subst (AreWeighed I case.index (take i groups ++ g ∷ [])) (sym c.in_ok-append.ensures)
    (weighed-more I case.index (take i groups) c.loop-group.sums.items g c.sums_of.result c.sums_of.ensures c.loop-group.invariant))
