use Rattle.std.proofs.Common.{sym, subst, arith}
use Rattle.std.proofs.lemmas.List.Elements.{All-contains_itself}
use Rattle.lock_rules.specs.Node.{Node}
use Rattle.price_rules.specs.Prices.{Reaches}
use Rattle.price_rules.proofs.ReachLemmas.{reached-stays}
use Rattle.price_terms.specs.Cuts.{plain_cuts}
use Rattle.price_rules.proofs.BelowLemmas.{reached-below}
use Rattle.price_bound.proofs.showing.shown_below.Goals as goal

pub new-requires : goal.new-requires
new-requires c =
    let shown = c.args.shown.now in
    let I = shown.instance in
    let us = shown.prices in
    let cuts = plain_cuts I shown.cuts in
    let node = c.args.node.now in
    let cost = c.min-cost.result in
    let above = subst (λ (n : Node). Reaches I cuts n.depth n.lines us shown.cost) c.requires.root c.cost.ensures.reached in
    let below = reached-below I cuts node.depth node.lines us shown.cost c.requires.node above in
    let lower = reached-stays I cuts cuts (All-contains_itself cuts) node.depth node.lines us shown.cost cost (omega (arith, c.min-cost.ensures, c.cost.ensures.value)) below in
    subst (λ I. Reaches I (plain_cuts I c.cuts.result.now) node.depth node.lines c.prices.result.now cost) (sym c.instance.ensures)
    (subst (λ held. Reaches I (plain_cuts I held) node.depth node.lines c.prices.result.now cost) (sym c.cuts.ensures)
    (subst (λ us. Reaches I cuts node.depth node.lines us cost) (sym c.prices.ensures) lower))
