use Rattle.std.proofs.Common.{◌≡◌, drop}
use Rattle.cert_text.specs.Versions.{has_outside}
use Rattle.cert_text.proofs.version.has_outside.Given as goal

abbrev pub invariant-loop-cut : goal.invariant-loop-cut
invariant-loop-cut l = has_outside l.version l.cuts ≡ has_outside l.version (drop l.cut-index l.cuts)
