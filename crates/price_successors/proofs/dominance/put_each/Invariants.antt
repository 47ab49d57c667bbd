use Rattle.price_groups.specs.Asked.{line_asked}
use Rattle.price_successors.specs.Enough.{HavePut}
use Rattle.price_successors.proofs.dominance.put_each.Given as goal

abbrev pub invariant-loop-successor : goal.invariant-loop-successor
invariant-loop-successor l = HavePut (line_asked l.case) l.more l.successor-index l.initial.successors.items l.successors.items
