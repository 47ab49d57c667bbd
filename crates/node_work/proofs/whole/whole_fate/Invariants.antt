use Rattle.node_work.specs.Lines.{AreMooredBelow}
use Rattle.node_work.proofs.whole.whole_fate.Given as goal

abbrev pub invariant-loop-chamber : goal.invariant-loop-chamber
invariant-loop-chamber g l = AreMooredBelow l.search.instance.now l.node.lines l.chamber l.moorings
