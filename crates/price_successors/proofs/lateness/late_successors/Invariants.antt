use Rattle.std.proofs.Common.{take}
use Rattle.price_groups.specs.Asked.{line_asked}
use Rattle.price_successors.specs.Dominance.{AreLate}
use Rattle.price_successors.proofs.lateness.late_successors.Given as goal

abbrev pub invariant-loop-successor : goal.invariant-loop-successor
invariant-loop-successor l = AreLate (line_asked l.case) l.late (take l.successor-index l.successors) l.lates.items
