use Rattle.std.proofs.Common.{All, take}
use Rattle.closing_rules.specs.ProvedCuts.{IsProved}
use Rattle.cert_check.proofs.cuts.first_unproved.Given as goal

abbrev pub invariant-loop-number : goal.invariant-loop-number
invariant-loop-number l = All (IsProved l.instance) (take l.number l.cuts)
