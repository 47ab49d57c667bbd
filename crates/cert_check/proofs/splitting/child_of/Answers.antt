use Rattle.std.proofs.Common.{◌≡◌, ◌<◌, length, sym, ap, ◌∙◌, arith, slice_index_or, Some}
use Rattle.std.proofs.lemmas.Option.{slice_get-get_or}
use Rattle.lock_rules.specs.Node.{Node, root_lines}
use Rattle.master_branch.specs.declared.step.Step.TheVariants.{Join}
use Rattle.master_branch.specs.Node.{children}
use Rattle.master_branch.specs.Steps.{steps_by, lines_after}
use Rattle.master_branch.proofs.StepLemmas.{read_as}
use Rattle.master_branch.proofs.ChildSteps.{step-child, length-steps}
use Rattle.cert_check.proofs.splitting.child_of.Goals as goal

pub bounds-as_slice-i : goal.bounds-as_slice-i
bounds-as_slice-i c =
    let I = c.args.claim.now.instance.now in
    let node = c.args.parent.now.node.now in
    omega (
      arith,
      c.requires.within,
      ap length (c.as_slice.ensures.value ∙ c.requires.split.listed),
      length-steps I node.depth c.args.parent.now.ship node.lines c.requires.split.next,
    )

pub take_step-requires-clause-step : goal.take_step-requires-clause-step
take_step-requires-clause-step c =
    let I = c.args.claim.now.instance.now in
    let node = c.args.parent.now.node.now in
    let ship = c.args.parent.now.ship in
    let same : c.copy-child.result ≡ node = c.copy-child.ensures in
    let steps : steps_by I ship c.copy-child.result.lines ≡ c.as_slice.result.now = ap (λ (n : Node). steps_by I ship n.lines) same ∙ sym (c.as_slice.ensures.value ∙ c.requires.split.listed) in
    let long = length-steps I node.depth ship node.lines c.requires.split.next in
    let all : length (steps_by I ship c.copy-child.result.lines) ≡ length (steps_by I ship node.lines) = ap (λ (n : Node). length (steps_by I ship n.lines)) same in
    (c.args.i, omega (arith, long, c.requires.within, all), read_as _ _ c.args.i _ _ steps (omega (arith, long, c.requires.within, all, ap length steps)))

pub returns-clause-lines : goal.returns-clause-lines
returns-clause-lines c =
    let I = c.args.claim.now.instance.now in
    let node = c.args.parent.now.node.now in
    let ship = c.args.parent.now.ship in
    let same : c.copy-child.result ≡ node = c.copy-child.ensures in
    let listed : steps_by I ship node.lines ≡ c.as_slice.result.now = sym (c.as_slice.ensures.value ∙ c.requires.split.listed) in
    let here : c.args.i < length (steps_by I ship node.lines) = omega (arith, length-steps I node.depth ship node.lines c.requires.split.next, c.requires.within) in
    slice_get-get_or (children I node) c.args.i root_lines c.requires.within
    ∙ ap Some (
    step-child I node.depth ship node.lines c.args.i (Join 0 0) root_lines c.requires.split.next here
    ∙ ap (λ xs. lines_after I ship node.lines (slice_index_or xs c.args.i (Join 0 0))) listed
    ∙ sym (c.take_step.ensures.lines ∙ ap (λ (n : Node). lines_after I ship n.lines (slice_index_or c.as_slice.result.now c.args.i (Join 0 0))) same)
    )
