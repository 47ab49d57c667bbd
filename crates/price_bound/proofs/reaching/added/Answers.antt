use Rattle.std.proofs.Common.{◌<◌, ◌≤ℤ◌, pos, neg_ℤ, IfSome, subst, arith}
use Rattle.std.proofs.lemmas.Int.{ints}
use Rattle.lock_rules.specs.Node.{line_at}
use Rattle.price_terms.specs.Cuts.{plain_cuts}
use Rattle.price_groups.specs.Asks.{line_ask}
use Rattle.price_table.specs.Lines.{IsLineFound}
use Rattle.price_table.specs.Values.{most_worth}
use Rattle.price_bound.proofs.TotalLemmas.{sum-start, sum-more, more-low, more-high}
use Rattle.price_bound.proofs.reaching.added.Goals as goal

pub loop-chamber-init : goal.loop-chamber-init
loop-chamber-init c =
    let asked = c.args.asked.now in
    let I = asked.instance.now in
    let node = asked.node.now in
    record {
      sum = sum-start I (plain_cuts I asked.cuts.now) node.depth node.lines asked.prices.now;
      low = omega (arith, ints);
      high = omega (arith, ints);
    }

pub loop-chamber-preserved : goal.loop-chamber-preserved
loop-chamber-preserved c =
    let asked = c.args.asked.now in
    let I = asked.instance.now in
    let cuts = plain_cuts I asked.cuts.now in
    let node = asked.node.now in
    let n = c.loop-chamber.chamber in
    let before = c.loop-chamber.invariant in
    let told = c.in_ok-line.ensures in
    let line = c.in-Some.line in
    let least = subst (IsLineFound (line_ask I n cuts node.depth asked.prices.now (line_at node.lines n))) c.in-Some.is told.least in
    let low = subst (λ o. IfSome o (λ line. neg_ℤ (pos 816080000000000) ≤ℤ line.worth)) c.in-Some.is told.low in
    let high = subst (λ o. IfSome o (λ line. line.worth ≤ℤ pos most_worth)) c.in-Some.is told.high in
    let few : n < 4 = omega (arith, c.loop-chamber-test.true, c.loop-chamber.auto.chamber-end, c.as_slice.ensures.fits) in
    record {
      sum = sum-more I cuts node.depth node.lines asked.prices.now n _ line.worth few before.low before.high low high before.sum least.least;
      low = more-low n _ line.worth few before.low before.high low high;
      high = more-high n _ line.worth few before.low before.high low high;
    }
