use Rattle.instance_text.proofs.LotLemmas.{lot_limits, limits_of}
use Rattle.instance_text.proofs.lot.make_lot.Goals as goal

pub invariant_of-result : goal.invariant_of-result
invariant_of-result c = record { limits = limits_of _ _ _ _ c.first_chambers.ensures c.lot_ships.ensures (lot_limits c.args.number c.args.ships c.args.chambers c.requires.some_ships c.requires.few_ships c.requires.some_chambers c.requires.few_chambers) }
