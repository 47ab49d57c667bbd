use Rattle.sweep.specs.Soonest.{AreSoon, AreLower}
use Rattle.sweep.proofs.soonest.lower_all.Given as goal

abbrev pub invariant-loop-one : goal.invariant-loop-one
invariant-loop-one l = record {
  own : AreSoon l.coming.items.items l.ready l.pass l.one-index l.soonest;
  lower : AreLower l.initial.soonest l.soonest;
}
