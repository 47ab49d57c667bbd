use Rattle.price_bound.specs.Asked.{node_asked}
use Rattle.price_bound.specs.Total.{AreLeastLines}
use Rattle.price_bound.proofs.reaching.listed.Given as goal

abbrev pub invariant-loop-chamber : goal.invariant-loop-chamber
invariant-loop-chamber l = AreLeastLines (node_asked l.asked) l.chamber l.lines.items
