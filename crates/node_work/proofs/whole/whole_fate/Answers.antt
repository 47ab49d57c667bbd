use Rattle.std.proofs.Common.{length, IfNone, subst}
use Rattle.lock_rules.specs.Node.{line_at}
use Rattle.node_work.specs.Lines.{IsMooredUpTo}
use Rattle.node_work.proofs.LineLemmas.{below_more}
use Rattle.node_work.proofs.whole.whole_fate.Goals as goal

pub loop-chamber-preserved : goal.loop-chamber-preserved
loop-chamber-preserved g c =
    let I = c.args.search.now.instance.now in
    let lines = c.args.node.now.lines in
    let m = c.loop-chamber.chamber in
    let line = line_at lines m in
    below_more I lines m c.loop-chamber.moorings c.moor_line.new.moorings c.loop-chamber.invariant
    (subst (λ o. IfNone o (IsMooredUpTo I m line (length line) c.loop-chamber.moorings c.moor_line.new.moorings)) c.in-None.is c.in_ok-stuck.ensures.moored)
