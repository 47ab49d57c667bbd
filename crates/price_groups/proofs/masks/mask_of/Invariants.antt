use Rattle.std.proofs.Common.{take}
use Rattle.price_groups.specs.Masks.{IsMask}
use Rattle.price_groups.proofs.masks.mask_of.Given as goal

abbrev pub invariant-loop-ship : goal.invariant-loop-ship
invariant-loop-ship l = IsMask l.mask (take l.ship-index l.ships)
