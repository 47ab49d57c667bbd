use Rattle.std.proofs.Common.{◌≡◌, ◌∙◌, [], sym, subst, below_more, rules, arith, slice_index_or}
use Rattle.std.proofs.lemmas.List.{get_or_default}
use Rattle.std.proofs.lemmas.List.Elements.{All-from_get_or}
use Rattle.price_groups.specs.Sparing.{AreIn, LacksSome}
use Rattle.price_groups.proofs.forbidden.misses_all.Goals as goal

pub returns-then-are_in : goal.returns-then-are_in
returns-then-are_in c =
    let within : AreIn c.args.ships.now c.set-item.result = search rules in
    (λ h. absurd cc, λ h. absurd (h c.loop-set.set-index c.set-item.result c.loop-set-test.true (subst (AreIn c.args.ships.now) c.set-item.is within)))

pub loop-set-preserved : goal.loop-set-preserved
loop-set-preserved c =
    let here : slice_index_or c.args.sets.now c.loop-set.set-index [] ≡ c.set-item.result =
    get_or_default c.args.sets.now c.loop-set.set-index _ c.set-item.result c.loop-set-test.true ∙ sym c.set-item.is in
    let apart : ¬ AreIn c.args.ships.now c.set-item.result = search rules in
    below_more _ _ c.loop-set.invariant (subst (λ set. ¬ AreIn c.args.ships.now set) (sym here) apart)

pub returns : goal.returns
returns c = (
  λ h. All-from_get_or (LacksSome c.args.ships.now) c.args.sets.now [] (λ i known. c.loop-set.invariant i (omega (arith, known, c.loop-set-test.false))),
  λ h. search rules,
)
