use Rattle.berth_place.specs.Pairs.{AreFirstApart}
use Rattle.berth_place.proofs.pairs.first_touching.Given as goal

abbrev pub invariant-loop-number : goal.invariant-loop-number
invariant-loop-number l = AreFirstApart l.deck l.values l.pairs l.number
