use Rattle.price_groups.specs.Masks.{AreHaving}
use Rattle.price_groups.proofs.masks.having.Given as goal

abbrev pub invariant-loop-mask : goal.invariant-loop-mask
invariant-loop-mask l = AreHaving l.own l.early l.marks l.mask-index l.masks.items
