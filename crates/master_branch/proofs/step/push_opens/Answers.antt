use Rattle.std.proofs.Common.{◌++◌, ◌∷◌, [], length, arith, sym, ap, ◌∙◌, append_assoc}
use Rattle.std.proofs.lemmas.List.{length-append}
use Rattle.master_branch.specs.declared.step.Step.TheVariants.{Open}
use Rattle.master_branch.specs.Steps.{opens_at}
use Rattle.master_branch.proofs.StepLemmas.{opens-more, length-opens}
use Rattle.master_branch.proofs.step.push_opens.Goals as goal

pub push-requires : goal.push-requires
push-requires c =
    omega (
      arith,
      ap length c.loop-place.invariant,
      length-append c.args.steps.now (opens_at c.args.chamber c.loop-place.place),
      length-opens c.args.chamber c.loop-place.place,
    )

pub loop-place-preserved : goal.loop-place-preserved
loop-place-preserved c =
    c.push.ensures
    ∙ ap (λ xs. xs ++ Open c.args.chamber c.loop-place.place ∷ []) c.loop-place.invariant
    ∙ append_assoc c.args.steps.now (opens_at c.args.chamber c.loop-place.place) (Open c.args.chamber c.loop-place.place ∷ [])
    ∙ ap (λ xs. c.args.steps.now ++ xs) (sym (opens-more c.args.chamber c.loop-place.place))
