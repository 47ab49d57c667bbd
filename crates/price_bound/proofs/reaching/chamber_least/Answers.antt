use Rattle.std.proofs.Common.{◌<◌, All, length, sym, subst}
use Rattle.lock_rules.specs.Node.{IsNodeGroup, line_at}
use Rattle.lock_rules.proofs.NodeLemmas.{line-known}
use Rattle.price_groups.specs.Worth.{IsKeptGroup}
use Rattle.price_bound.proofs.TotalLemmas.{line-kept}
use Rattle.price_bound.proofs.reaching.chamber_least.Goals as goal

pub invariant_of-case-clause-kept : goal.invariant_of-case-clause-kept
invariant_of-case-clause-kept c =
    let asked = c.args.asked.now in
    let I = asked.instance.now in
    let node = asked.node.now in
    subst (All (IsKeptGroup I c.depth.result)) (sym c.line.ensures.value)
    (subst (λ k. All (IsKeptGroup I k) (line_at node.lines c.args.chamber)) (sym c.depth.ensures.value) (line-kept I node.depth node.lines asked.is c.args.chamber c.requires.chamber_in))

pub invariant_of-case-clause-ships_in : goal.invariant_of-case-clause-ships_in
invariant_of-case-clause-ships_in c =
    let asked = c.args.asked.now in
    let I = asked.instance.now in
    subst (All (λ g. All (λ s. s < length I.ships) g.ships)) (sym c.line.ensures.value) (line-known I asked.node.now.depth asked.node.now.lines asked.is c.args.chamber)

pub invariant_of-case-clause-good : goal.invariant_of-case-clause-good
invariant_of-case-clause-good c =
    let asked = c.args.asked.now in
    subst (All (IsNodeGroup asked.instance.now c.args.chamber)) (sym c.line.ensures.value) (asked.is.groups c.args.chamber c.requires.chamber_in)
