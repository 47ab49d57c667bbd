use Rattle.std.proofs.Common.{◌∙◌, ap}
use Rattle.lock_rules.specs.Arrival.{next_ship}
use Rattle.master_branch.specs.Steps.{steps_by}
use Rattle.cert_check.proofs.splitting.split.Goals as goal

pub children_reaching-reached-requires-clause-steps : goal.children_reaching-reached-requires-clause-steps
children_reaching-reached-requires-clause-steps c =
    let I = c.args.claim.now.instance.now in
    c.steps_by-steps.ensures.value ∙ ap (λ s. steps_by I s c.args.node.now.lines) (c.ship-ship.ensures.value ∙ ap (next_ship I) c.depth.ensures.value)

pub returns-clause-split : goal.returns-clause-split
returns-clause-split c = record {
  own = c.requires.node;
  lacks = c.requires.lacks;
  next = c.ship-ship.ensures.value ∙ ap (next_ship c.args.claim.now.instance.now) c.depth.ensures.value;
  listed = c.steps_by-steps.ensures.value;
  told = c.children_reaching-reached.ensures.value;
}
