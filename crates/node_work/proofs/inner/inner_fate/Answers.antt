use Rattle.std.proofs.Common.{arith}
use Rattle.node_work.proofs.ProbeLemmas.{probe_closes, probe_cheap}
use Rattle.node_work.proofs.inner.inner_fate.Goals as goal

pub returns-clause-fate : goal.returns-clause-fate
returns-clause-fate g c =
    let f = c.args.probed.now in
    probe_closes c.args.search.now.instance.now f.instance.now f.node.now.depth c.depth.result f.node.now.lines c.ship-ship.result c.args.best f.least
    c.requires c.depth.ensures.value f.lacks c.ship-ship.ensures.value f.least_is (omega (arith, c.if-probed-best.false))

pub returns-then-probed-best-clause-probed : goal.returns-then-probed-best-clause-probed
returns-then-probed-best-clause-probed g c =
    let f = c.args.probed.now in
    probe_cheap c.args.search.now.instance.now f.instance.now f.node.now.depth f.node.now.lines c.args.best f.least c.fate_by_newest.result
    c.requires f.least_is c.if-probed-best.true
