use Rattle.std.proofs.Common.{◌≡◌, take}
use Rattle.replan.specs.Rest.{ships_from}
use Rattle.replan.proofs.left.ships_from.Given as goal

abbrev pub invariant-loop-number : goal.invariant-loop-number
invariant-loop-number l = l.ships ≡ ships_from l.instance l.from (take l.number-index l.number-items)
