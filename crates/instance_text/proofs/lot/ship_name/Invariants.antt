use Rattle.std.proofs.Common.{◌≡◌, ◌++◌, take, codes}
use Rattle.instance_text.proofs.lot.ship_name.Given as goal

abbrev pub invariant-loop-digit : goal.invariant-loop-digit
invariant-loop-digit l = l.name ≡ codes "s" ++ take l.digit-index l.digits
