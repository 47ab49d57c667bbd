use Rattle.solve_commands.proofs.LotLemmas.{lot_fits}
use Rattle.solve_commands.proofs.lots.lot_of.Goals as goal

pub returns-clause-fit : goal.returns-clause-fit
returns-clause-fit c = lot_fits c.make_lot.result c.args.options.now.number c.args.options.now.ships c.args.options.now.chambers c.requires.chambers.0 (record { chambers_are = c.make_lot.ensures.chambers; ships_are = c.make_lot.ensures.ships })
