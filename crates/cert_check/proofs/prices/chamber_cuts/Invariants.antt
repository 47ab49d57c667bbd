use Rattle.std.proofs.Common.{◌≡◌, take}
use Rattle.price_terms.specs.Cuts.{plain_cuts}
use Rattle.certificate_rules.specs.Certificates.{cuts_in}
use Rattle.cert_check.proofs.prices.chamber_cuts.Given as goal

abbrev pub invariant-loop-cut : goal.invariant-loop-cut
invariant-loop-cut l = plain_cuts l.instance l.seen.items ≡ cuts_in l.instance (take l.cut-index l.cuts)
