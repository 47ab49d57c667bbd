use Rattle.std.proofs.Common.{◌≡◌, take}
use Rattle.solve_workers.specs.Opening.{with_cuts}
use Rattle.solve_workers.proofs.opening.post_all.Given as goal

abbrev pub invariant-loop-cut : goal.invariant-loop-cut
invariant-loop-cut l = l.book ≡ with_cuts l.initial.book (take l.cut-index l.cuts)
