use Rattle.std.proofs.Common.{◌≡◌, drop}
use Rattle.cert_text.specs.Versions.{name_triples}
use Rattle.cert_text.proofs.version.name_triples.Given as goal

abbrev pub invariant-loop-own : goal.invariant-loop-own
invariant-loop-own l = name_triples l.prices ≡ name_triples (drop l.own-index l.prices)
