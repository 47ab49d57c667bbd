use Rattle.std.proofs.Common.{◌≡◌, ◌+◌, suc, length, sym, subst, arith, rules}
use Rattle.price_groups.specs.Asked.{group_asked}
use Rattle.price_groups.specs.Growing.{AreGrown, IsNew}
use Rattle.price_groups.specs.Masks.{AreCompletable}
use Rattle.price_groups.specs.declared.completable_sets.CompletableSets.{CompletableSets}
use Rattle.price_groups.proofs.GrowLemmas.{grown-skip}
use Rattle.price_groups.proofs.growing.grow.Goals as goal

pub returns-then-not-may_grow-clause-grown : goal.returns-then-not-may_grow-clause-grown
returns-then-not-may_grow-clause-grown c =
    let I = c.args.extension.now.case.now.instance.now in
    let n = c.args.extension.now.case.now.index in
    let k = c.args.extension.now.case.now.depth in
    let prices = c.args.extension.now.ceilings.now in
    let sets = c.args.extension.now.sets.now in
    let up : suc c.args.ship ≡ c.args.ship + 1 = omega arith in
    let old : ¬ IsNew I k c.args.base.now c.args.ship = search rules in
    subst (λ m. AreGrown (group_asked c.args.extension.now) c.args.base.now m c.args.groups.now.items) up (grown-skip I n k prices sets c.args.base.now c.args.ship c.args.groups.now.items old c.requires.grown)

pub join_each-requires-clause-completable : goal.join_each-requires-clause-completable
join_each-requires-clause-completable c =
    let I = c.args.extension.now.case.now.instance.now in
    let sets = c.args.extension.now.sets.now in
    let new : IsNew I c.args.extension.now.case.now.depth c.args.base.now c.args.ship = search rules in
    let completable = c.index-extension-ship.result in
    let same : c.deref.result.now ≡ completable.masks.items = search rules in
    subst (AreCompletable I c.args.extension.now.case.now.depth sets (length sets) c.args.ship) (sym same)
    (subst (λ (completable : CompletableSets). AreCompletable I c.args.extension.now.case.now.depth sets (length sets) c.args.ship completable.masks.items) (sym c.index-extension-ship.is) (c.requires.completable.each c.args.ship completable c.requires.known new.missing))
