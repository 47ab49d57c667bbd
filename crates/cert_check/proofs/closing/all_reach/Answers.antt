use Rattle.std.proofs.Common.{◌∙◌, ap, arith}
use Rattle.lock_rules.specs.Bound.{probe_of}
use Rattle.master_branch.specs.Steps.{steps_by}
use Rattle.master_branch.proofs.ChildSteps.{ship-known}
use Rattle.cert_check.proofs.closing.all_reach.Goals as goal

pub steps_by-steps-requires-clause-known : goal.steps_by-steps-requires-clause-known
steps_by-steps-requires-clause-known c = ship-known c.args.claim.now.instance.now c.args.node.now.depth c.args.ship c.requires.lacks c.requires.next

pub children_reaching-requires-clause-steps : goal.children_reaching-requires-clause-steps
children_reaching-requires-clause-steps c = c.steps_by-steps.ensures.value ∙ ap (λ s. steps_by c.args.claim.now.instance.now s c.args.node.now.lines) c.requires.next

pub returns : goal.returns
returns c =
    let node = c.args.node.now in
    let probed = ap (probe_of c.args.claim.now.instance.now node.depth node.lines) c.requires.next in
    (λ h. omega (arith, probed, c.children_reaching.ensures.probe.0 (c.all.ensures.0 h)), λ h. c.all.ensures.1 (c.children_reaching.ensures.probe.1 (omega (arith, probed, h))))
