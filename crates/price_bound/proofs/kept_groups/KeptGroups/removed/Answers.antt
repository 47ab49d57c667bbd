use Rattle.std.proofs.Common.{◌<◌, All, length, sym, subst}
use Rattle.std.specs.List.{swap_remove}
use Rattle.std.proofs.lemmas.List.Elements.{All-tail}
use Rattle.std.proofs.lemmas.List.Sorted.{All-permutation, IsPermutation-swap_remove}
use Rattle.price_bound.specs.declared.kept_groups.ChamberGroups.{ChamberGroups}
use Rattle.price_bound.specs.KeptGroups.{AreGroupsFor}
use Rattle.price_bound.proofs.kept_groups.KeptGroups.removed.Goals as goal

pub returns-in-Some-clause-keeps : goal.returns-in-Some-clause-keeps
returns-in-Some-clause-keeps c =
    let case = c.args.case.now in
    let is : ChamberGroups → Type 0 = AreGroupsFor case.instance.now case.depth case.cuts.now c.args.self.now.ceilings in
    let all = c.args.self.now.chambers.items in
    let own = c.swap_remove.result in
    let here : c.in-Some.place < length all = subst (λ xs. c.in-Some.place < length xs) c.deref.ensures.value c.in-Some.ensures.place in
    subst (All is) (sym c.swap_remove.ensures.items)
    (All-tail is own (swap_remove all c.in-Some.place own) (All-permutation is all _ (IsPermutation-swap_remove all c.in-Some.place own here c.swap_remove.ensures.value) c.requires))
