use Rattle.std.proofs.Common.{◌≡◌, ◌++◌}
use Rattle.picture_page.specs.Ticks.{multiples}
use Rattle.picture_page.proofs.ticks.put_multiples.Given as goal

abbrev pub invariant-loop-k : goal.invariant-loop-k
invariant-loop-k l = l.marks.items ≡ l.initial.marks.items ++ multiples l.axis l.limit l.first l.k
