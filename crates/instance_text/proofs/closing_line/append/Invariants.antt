use Rattle.std.proofs.Common.{◌≡◌, ◌++◌, take}
use Rattle.instance_text.proofs.closing_line.append.Given as goal

abbrev pub invariant-loop-closure : goal.invariant-loop-closure
invariant-loop-closure l = l.closures ≡ l.initial.closures ++ take l.closure-index l.more
