use Rattle.price_terms.specs.Cuts.{plain_cuts}
use Rattle.sweep.specs.Ends.{ArriveInFirst}
use Rattle.sweep.proofs.sweeping.arrivals_of.Given as goal

abbrev pub invariant-loop-place : goal.invariant-loop-place
invariant-loop-place l = ArriveInFirst l.asked.instance.now (plain_cuts l.asked.instance.now l.asked.cuts.now) l.place l.all.items
