use Rattle.std.proofs.Common.{drop}
use Rattle.place_refute.proofs.WalkLemmas.{LeadsAlike}
use Rattle.place_refute.proofs.walk.leads_to.Given as goal

abbrev pub invariant-loop-number : goal.invariant-loop-number
invariant-loop-number l = LeadsAlike l.edges l.from l.numbers l.at (drop l.number-index l.numbers) l.to
