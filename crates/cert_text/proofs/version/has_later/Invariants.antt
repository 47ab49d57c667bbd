use Rattle.std.proofs.Common.{◌≡◌, drop}
use Rattle.cert_text.specs.Versions.{has_later}
use Rattle.cert_text.proofs.version.has_later.Given as goal

abbrev pub invariant-loop-mark : goal.invariant-loop-mark
invariant-loop-mark l = has_later l.version l.tree ≡ has_later l.version (drop l.mark-index l.tree)
