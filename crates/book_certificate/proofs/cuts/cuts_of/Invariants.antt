use Rattle.std.proofs.Common.{◌≡◌, ◌-◌, length, map, take}
use Rattle.book_certificate.specs.Certified.{cert_cut}
use Rattle.book_certificate.proofs.cuts.cuts_of.Given as goal

abbrev pub invariant-loop-cut : goal.invariant-loop-cut
invariant-loop-cut l = l.cuts ≡ map cert_cut (take (length l.cuts) l.book.cuts)

abbrev pub decreases-loop-cut : goal.decreases-loop-cut
decreases-loop-cut l = length l.book.cuts - length l.cuts
