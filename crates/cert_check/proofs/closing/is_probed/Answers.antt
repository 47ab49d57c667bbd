use Rattle.std.proofs.Common.{◌≡◌, ◌∙◌, ap, rules}
use Rattle.lock_rules.specs.Arrival.{next_ship}
use Rattle.lock_rules.specs.Node.{times_held}
use Rattle.flow_bounds.proofs.ProbeLemmas.{next-held}
use Rattle.master_branch.proofs.ChildSteps.{ship-known}
use Rattle.flow_bounds.specs.Missing.{IsMissing}
use Rattle.cert_check.proofs.MissingLemmas.{missing-contains, contains-missing}
use Rattle.cert_check.proofs.closing.is_probed.Goals as goal

pub returns-then-is_next : goal.returns-then-is_next
returns-then-is_next c =
    let I = c.args.claim.now.instance.now in
    let node = c.args.node.now in
    let lacks = c.if-is_next.ensures.lacks in
    let next : c.args.ship ≡ next_ship I node.depth = c.if-is_next.ensures.next in
    let missing : IsMissing I node.lines c.args.ship = record {
      known = ship-known I node.depth c.args.ship lacks next;
      absent = ap (λ s. times_held s node.lines) next ∙ next-held I node.depth node.lines c.requires lacks;
    } in
    let among = missing-contains I node.depth node.lines c.args.ship c.requires missing in
    (λ h. (among, c.all_reach.ensures.0 h), λ h. c.all_reach.ensures.1 h.1)

pub returns-then-is_missing : goal.returns-then-is_missing
returns-then-is_missing c =
    let I = c.args.claim.now.instance.now in
    let missing : IsMissing I c.args.node.now.lines c.args.ship = search rules in
    let among = missing-contains I c.args.node.now.depth c.args.node.now.lines c.args.ship c.requires missing in
    let value = c.probe.ensures.value in
    (λ h. (among, search (rules, value)), λ h. search (rules, value))

pub returns-else-is_missing : goal.returns-else-is_missing
returns-else-is_missing c =
    let I = c.args.claim.now.instance.now in
    let held : ¬ IsMissing I c.args.node.now.lines c.args.ship = search rules in
    (λ h. absurd (search rules), λ h. absurd (held (contains-missing I c.args.node.now.depth c.args.node.now.lines c.args.ship c.requires h.0)))
