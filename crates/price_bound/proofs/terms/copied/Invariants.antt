use Rattle.std.proofs.Common.{◌≡◌, take}
use Rattle.price_bound.proofs.terms.copied.Given as goal

abbrev pub invariant-loop-cut : goal.invariant-loop-cut
invariant-loop-cut l = l.copies.items ≡ take l.cut-index l.cuts
