use Rattle.std.proofs.Common.{◌≡◌}
use Rattle.search_book.proofs.LearningLemmas.{left, whole}
use Rattle.search_book.proofs.learning.learn_cuts.Given as goal

abbrev pub invariant-cuts : goal.invariant-cuts
invariant-cuts l = whole l.known.items l.initial.book.cuts ≡ whole l.initial.known.items l.initial.book.cuts

abbrev pub decreases-cuts : goal.decreases-cuts
decreases-cuts l = left l.known.items l.initial.book.cuts
