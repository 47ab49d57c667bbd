use Rattle.std.proofs.Common.{◌≡◌, ◌&&◌}
use Rattle.price_terms.proofs.CutLemmas.{same_from}
use Rattle.price_terms.proofs.cut.same_cuts.Given as goal

abbrev pub invariant-loop-i : goal.invariant-loop-i
invariant-loop-i l = (l.same && same_from l.some l.others l.i) ≡ same_from l.some l.others 0
