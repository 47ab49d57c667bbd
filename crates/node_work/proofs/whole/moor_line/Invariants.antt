use Rattle.lock_rules.specs.Node.{line_at}
use Rattle.node_work.specs.Lines.{IsMooredUpTo}
use Rattle.node_work.proofs.whole.moor_line.Given as goal

abbrev pub invariant-loop-place : goal.invariant-loop-place
invariant-loop-place g l = IsMooredUpTo l.search.instance.now l.line.chamber (line_at l.line.node.now.lines l.line.chamber) l.place l.initial.moorings l.moorings
