use Rattle.price_groups.specs.Asked.{line_asked}
use Rattle.price_successors.specs.Enough.{HaveSome}
use Rattle.price_successors.proofs.choosing.add_grown.Given as goal

abbrev pub invariant-loop-grown : goal.invariant-loop-grown
invariant-loop-grown l =
    HaveSome (line_asked l.extension.case.now) l.joins l.list.groups.items l.grown-index l.initial.successors.items l.successors.items
