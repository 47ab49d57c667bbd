use Rattle.node_work.proofs.LastLemmas.{lacked_below_more}
use Rattle.node_work.proofs.last.last_group.Goals as goal

pub loop-chamber-preserved : goal.loop-chamber-preserved
loop-chamber-preserved c =
    lacked_below_more c.args.node.now.lines c.args.ship c.loop-chamber.chamber c.line.result.now c.line.ensures.value c.loop-chamber.invariant c.in_default.ensures.none
