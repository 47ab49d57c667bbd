use Rattle.std.proofs.Common.{◌+◌, sym, subst}
use Rattle.lock_rules.specs.Node.{line_at}
use Rattle.price_terms.specs.Cuts.{plain_cuts}
use Rattle.price_groups.specs.Asks.{line_ask}
use Rattle.price_table.specs.Lines.{IsLineFound}
use Rattle.price_bound.specs.Asked.{node_asked}
use Rattle.price_bound.specs.Total.{AreLeastLines}
use Rattle.price_bound.proofs.KeepLemmas.{copy-least}
use Rattle.price_bound.proofs.TotalLemmas.{lines-next}
use Rattle.price_bound.proofs.reaching.listed.Goals as goal

pub loop-chamber-preserved : goal.loop-chamber-preserved
loop-chamber-preserved c =
    let asked = c.args.asked.now in
    let I = asked.instance.now in
    let cuts = plain_cuts I asked.cuts.now in
    let node = asked.node.now in
    let us = asked.prices.now in
    let n = c.loop-chamber.chamber in
    let line = line_at node.lines n in
    let copy = c.in_ok-copy-in-Some in
    let least = subst (IsLineFound (line_ask I n cuts node.depth us line)) c.in-Some.is c.in_ok-line.ensures.least in
    subst (AreLeastLines (node_asked asked) (n + 1)) (sym c.in_ok-append-in-Some.ensures)
    (lines-next I cuts node.depth us node.lines n c.loop-chamber.lines.items copy.field-0 c.loop-chamber.invariant
    (copy-least I n cuts node.depth us line c.in-Some.line copy.field-0 copy.ensures.groups copy.ensures.worth least))
