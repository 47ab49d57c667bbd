use Rattle.std.proofs.Common.{All}
use Rattle.book_rules.specs.Cover.{IsOwnCut}
use Rattle.resume_command.proofs.resuming.own_cuts.Given as goal

abbrev pub invariant-loop-cut : goal.invariant-loop-cut
invariant-loop-cut l = All (IsOwnCut l.instance) l.own
