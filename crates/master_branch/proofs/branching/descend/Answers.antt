use Rattle.std.proofs.Common.{◌≡◌, ◌<◌, length, sym, ap, ◌∙◌, arith, slice_index_or, Some}
use Rattle.std.proofs.lemmas.Option.{slice_get-get_or}
use Rattle.lock_rules.specs.Arrival.{next_ship}
use Rattle.lock_rules.specs.Node.{root_lines}
use Rattle.master_branch.specs.declared.step.Step.TheVariants.{Join}
use Rattle.master_branch.specs.Node.{children}
use Rattle.master_branch.specs.Steps.{steps_by, lines_after}
use Rattle.master_branch.proofs.StepLemmas.{read_as}
use Rattle.master_branch.proofs.ChildSteps.{ship-known, step-child, length-steps}
use Rattle.master_branch.proofs.branching.descend.Goals as goal

pub steps_by-requires-clause-known : goal.steps_by-requires-clause-known
steps_by-requires-clause-known c = ship-known c.args.instance.now c.args.node.now.depth c.args.ship c.requires.lacks c.requires.next

pub take_step-requires-clause-step : goal.take_step-requires-clause-step
take_step-requires-clause-step c =
    let lines = c.args.node.now.lines in
    let ship = c.args.ship in
    let next : ship ≡ next_ship c.args.instance.now c.args.node.now.depth = c.requires.next in
    let steps : steps_by c.args.instance.now ship lines ≡ c.as_slice.result.now = sym (c.as_slice.ensures.value ∙ c.steps_by.ensures.value) in
    let long = length-steps c.args.instance.now c.args.node.now.depth ship lines next in
    (c.args.i, omega (arith, long, c.requires.within), read_as _ _ c.args.i _ _ steps (omega (arith, long, c.requires.within, ap length steps)))

pub returns-clause-lines : goal.returns-clause-lines
returns-clause-lines c =
    let lines = c.args.node.now.lines in
    let ship = c.args.ship in
    let next : ship ≡ next_ship c.args.instance.now c.args.node.now.depth = c.requires.next in
    let steps : steps_by c.args.instance.now ship lines ≡ c.as_slice.result.now = sym (c.as_slice.ensures.value ∙ c.steps_by.ensures.value) in
    let here : c.args.i < length (steps_by c.args.instance.now ship lines) = omega (arith, length-steps c.args.instance.now c.args.node.now.depth ship lines next, c.requires.within) in
    slice_get-get_or (children c.args.instance.now c.args.node.now) c.args.i root_lines c.requires.within
    ∙ ap Some (
    step-child c.args.instance.now c.args.node.now.depth ship lines c.args.i (Join 0 0) root_lines next here
    ∙ ap (λ xs. lines_after c.args.instance.now ship lines (slice_index_or xs c.args.i (Join 0 0))) steps
    ∙ sym c.take_step.ensures.lines
    )
