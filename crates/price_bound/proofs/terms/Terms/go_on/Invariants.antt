use Rattle.std.proofs.Common.{length}
use Rattle.price_bound.specs.Keeping.{HaveGone}
use Rattle.price_bound.proofs.terms.Terms.go_on.Given as goal

abbrev pub invariant-loop-place : goal.invariant-loop-place
invariant-loop-place l = HaveGone l.case.instance.now l.case.depth l.case.prices.now l.case.cuts.now (length l.initial.self.cuts.items) l.place l.self
