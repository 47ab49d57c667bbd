use Rattle.std.proofs.Common.{◌≡◌, ℕ, ◌<◌, length, sym, ap, ◌∙◌, subst, arith, slice_index_or}
use Rattle.price_bound.specs.KeptGroups.{AreSpared}
use Rattle.price_bound.proofs.SparedLemmas.{spared-first, spared-next}
use Rattle.price_bound.proofs.kept_groups.spared_list.Goals as goal

pub loop-one-init : goal.loop-one-init
loop-one-init c = subst (AreSpared c.args.masks.now c.args.list.now.groups.items 0) (sym c.new-groups.ensures.items) (spared-first c.args.masks.now c.args.list.now.groups.items)

pub loop-one-preserved : goal.loop-one-preserved
loop-one-preserved c =
    let groups = c.args.list.now.groups.items in
    let one = c.one-item.result in
    let same = c.deref-one-items.ensures.value in
    spared-next c.args.masks.now groups c.loop-one.one-index one c.loop-one.groups.items c.put_spared.new.groups.items (subst (λ gs. c.loop-one.one-index < length gs) same c.loop-one-test.true)
    (c.one-item.is ∙ ap (λ gs. slice_index_or gs c.loop-one.one-index one) same) c.in_ok-put_spared.ensures c.loop-one.invariant

pub returns : goal.returns
returns c =
    let groups = c.args.list.now.groups.items in
    let count = ap {B = ℕ} (λ gs. length gs) c.deref-one-items.ensures.value in
    let all : c.loop-one.one-index ≡ length groups = omega (arith, c.loop-one-test.false, c.loop-one.auto.one-index-end, count) in
    record { base = c.copy.ensures; groups = subst (λ i. AreSpared c.args.masks.now groups i c.loop-one.groups.items) all c.loop-one.invariant }
