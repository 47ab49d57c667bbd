use Rattle.std.proofs.Common.{◌≡◌, refl, [], ◌∷◌, ◌++◌, All, sym, ◌∙◌, subst, rules}
use Rattle.price_groups.specs.Asked.{group_asked}
use Rattle.price_groups.specs.Growing.{AreGrown}
use Rattle.price_groups.specs.Sparing.{LacksSome}
use Rattle.price_groups.proofs.GrowLemmas.{grown-first, grown-none, base-grown}
use Rattle.price_groups.proofs.growing.ungrown.Goals as goal

pub returns-then-not-misses_all : goal.returns-then-not-misses_all
returns-then-not-misses_all c =
    let I = c.args.extension.now.case.now.instance.now in
    let n = c.args.extension.now.case.now.index in
    let k = c.args.extension.now.case.now.depth in
    let prices = c.args.extension.now.ceilings.now in
    let sets = c.args.extension.now.sets.now in
    let hit : ¬ All (LacksSome c.as_slice.result.now) sets = search rules in
    subst (AreGrown (group_asked c.args.extension.now) c.args.base.now 0) (sym c.new-groups.ensures.items)
    (grown-none I n k prices sets c.args.base.now 0 (λ misses. hit (subst (λ ships. All (LacksSome ships) sets) (sym c.as_slice.ensures.value) misses)))

pub returns : goal.returns
returns c =
    let I = c.args.extension.now.case.now.instance.now in
    let n = c.args.extension.now.case.now.index in
    let k = c.args.extension.now.case.now.depth in
    let prices = c.args.extension.now.ceilings.now in
    let sets = c.args.extension.now.sets.now in
    let misses : All (LacksSome c.as_slice.result.now) sets = c.if-not-misses_all.ensures.0 refl in
    let own : All (LacksSome c.args.base.now.ships) sets = subst (λ ships. All (LacksSome ships) sets) c.as_slice.ensures.value misses in
    let is : c.append.new.list.items ≡ c.args.base.now ∷ [] = c.in_ok-append.ensures ∙ (λ i. c.new-groups.ensures.items i ++ c.copy.ensures i ∷ []) in
    subst (AreGrown (group_asked c.args.extension.now) c.args.base.now 0) (sym is) (grown-first I n k prices sets c.args.base.now (base-grown I n k prices sets c.args.base.now c.requires own))
