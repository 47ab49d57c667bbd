use Rattle.std.proofs.Common.{◌≡◌, take}
use Rattle.instance_text.specs.Lot.{lot_chambers}
use Rattle.instance_text.proofs.lot.first_chambers.Given as goal

abbrev pub invariant-loop-i : goal.invariant-loop-i
invariant-loop-i l = l.chambers ≡ take l.i lot_chambers
