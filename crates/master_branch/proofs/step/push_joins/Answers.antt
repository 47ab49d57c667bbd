use Rattle.std.proofs.Common.{◌≡◌, ◌++◌, ◌∷◌, [], length, map, true, arith, sym, ap, ◌∙◌, append_assoc}
use Rattle.std.proofs.lemmas.List.{length-append, get_or_default}
use Rattle.master_branch.specs.declared.step.Step.TheVariants.{Join}
use Rattle.master_branch.specs.Steps.{group_in, may_join, places_to_join}
use Rattle.master_branch.proofs.StepLemmas.{joins-hit, joins-miss, joins-room}
use Rattle.master_branch.proofs.step.push_joins.Goals as goal
use Rattle.master_branch.proofs.step.push_joins.Goals.{then-may_join, else-may_join}

pub push-requires : goal.push-requires
push-requires c =
    let at : group_in c.args.line.now c.loop-place.place ≡ c.index-line-place.result = get_or_default c.args.line.now c.loop-place.place _ _ c.loop-place-test.true ∙ sym c.index-line-place.is in
    let hit : may_join c.args.most c.args.way (group_in c.args.line.now c.loop-place.place) ≡ true = ap (may_join c.args.most c.args.way) at ∙ sym c.may_join.ensures ∙ c.if-may_join.true in
    let before = map (λ place. Join c.args.chamber place) (places_to_join c.args.most c.args.way c.args.line.now c.loop-place.place) in
    omega (
      arith,
      joins-room c.args.most c.args.way c.args.chamber c.args.line.now c.loop-place.place hit c.loop-place-test.true,
      ap length c.loop-place.invariant,
      length-append c.args.steps.now before,
    )

pub loop-place-preserved : goal.loop-place-preserved
loop-place-preserved c =
    let at : group_in c.args.line.now c.loop-place.place ≡ c.index-line-place.result = get_or_default c.args.line.now c.loop-place.place _ _ c.loop-place-test.true ∙ sym c.index-line-place.is in
    let test : may_join c.args.most c.args.way (group_in c.args.line.now c.loop-place.place) ≡ c.may_join.result = ap (may_join c.args.most c.args.way) at ∙ sym c.may_join.ensures in
    let before = map (λ place. Join c.args.chamber place) (places_to_join c.args.most c.args.way c.args.line.now c.loop-place.place) in
    elim c.if-may_join.branch [
      | then-may_join w ↦
          w.steps-is
          ∙ w.push.ensures
          ∙ ap (λ xs. xs ++ Join c.args.chamber c.loop-place.place ∷ []) c.loop-place.invariant
          ∙ append_assoc c.args.steps.now before (Join c.args.chamber c.loop-place.place ∷ [])
          ∙ ap (λ xs. c.args.steps.now ++ xs) (sym (joins-hit c.args.most c.args.way c.args.chamber c.args.line.now c.loop-place.place (test ∙ w.if-may_join.true)))
      | else-may_join w ↦
          w.steps-is
          ∙ c.loop-place.invariant
          ∙ ap (λ xs. c.args.steps.now ++ xs) (sym (joins-miss c.args.most c.args.way c.args.chamber c.args.line.now c.loop-place.place (test ∙ w.if-may_join.false)))
    ]
