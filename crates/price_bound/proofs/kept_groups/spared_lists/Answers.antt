use Rattle.std.proofs.Common.{◌≡◌, ◌+◌, [], ◌∷◌, ◌++◌, length, sym, subst, arith}
use Rattle.price_bound.specs.KeptGroups.{AreSparedLists}
use Rattle.price_bound.proofs.SparedLemmas.{lists-first, lists-next}
use Rattle.price_bound.proofs.kept_groups.spared_lists.Goals as goal

pub loop-list-init : goal.loop-list-init
loop-list-init c = subst (AreSparedLists c.args.masks.now c.args.lists.now 0) (sym c.new-spared.ensures.items) (lists-first c.args.masks.now c.args.lists.now)

pub loop-list-preserved : goal.loop-list-preserved
loop-list-preserved c =
    let masks = c.args.masks.now in
    let lists = c.args.lists.now in
    let i = c.loop-list.list-index in
    let more : c.append.new.list.items ≡ c.loop-list.spared.items ++ c.in_ok-spared_list.field-0 ∷ [] = c.in_ok-append.ensures in
    subst (AreSparedLists masks lists (i + 1)) (sym more)
    (lists-next masks lists i c.loop-list.spared.items c.list-item.result c.in_ok-spared_list.field-0 c.loop-list-test.true (sym c.list-item.is) c.in_ok-spared_list.ensures c.loop-list.invariant)

pub returns : goal.returns
returns c =
    let all : c.loop-list.list-index ≡ length c.args.lists.now = omega (arith, c.loop-list-test.false, c.loop-list.auto.list-index-end) in
    subst (λ n. AreSparedLists c.args.masks.now c.args.lists.now n c.loop-list.spared.items) all c.loop-list.invariant
