use Rattle.std.proofs.Common.{◌≡◌, ◌∙◌, [], sym, subst, below_more, rules, arith, slice_index_or}
use Rattle.std.proofs.lemmas.List.{get_or_default}
use Rattle.std.proofs.lemmas.List.Elements.{All-from_get_or}
use Rattle.lock_model.specs.declared.way.Way.TheVariants.{Up}
use Rattle.price_groups.specs.Sparing.{IsSpared}
use Rattle.price_groups.proofs.forbidden.are_spared.Goals as goal

pub returns-then-not-is_spared : goal.returns-then-not-is_spared
returns-then-not-is_spared c =
    let held : ¬ IsSpared c.args.sets.now c.group-item.result = search rules in
    (λ h. absurd cc, λ h. absurd (held (subst (IsSpared c.args.sets.now) (sym c.group-item.is) (h c.loop-group.group-index c.group-item.result c.loop-group-test.true))))

pub loop-group-preserved : goal.loop-group-preserved
loop-group-preserved c =
    let here : slice_index_or c.args.groups.now c.loop-group.group-index (record { way = Up; ships = [] }) ≡ c.group-item.result =
    get_or_default c.args.groups.now c.loop-group.group-index _ c.group-item.result c.loop-group-test.true ∙ sym c.group-item.is in
    let spared : IsSpared c.args.sets.now c.group-item.result = search rules in
    below_more _ _ c.loop-group.invariant (subst (IsSpared c.args.sets.now) (sym here) spared)

pub returns : goal.returns
returns c = (
  λ h. All-from_get_or (IsSpared c.args.sets.now) c.args.groups.now (record { way = Up; ships = [] }) (λ i known. c.loop-group.invariant i (omega (arith, known, c.loop-group-test.false))),
  λ h. search rules,
)
