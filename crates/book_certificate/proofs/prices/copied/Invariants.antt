use Rattle.std.proofs.Common.{◌≡◌, take}
use Rattle.book_certificate.proofs.prices.copied.Given as goal

abbrev pub invariant-loop-own : goal.invariant-loop-own
invariant-loop-own l = l.copy ≡ take l.own-index l.prices
