use Rattle.std.proofs.Common.{arith}
use Rattle.spot_place.proofs.SpotLemmas.{whole-places, whole-berths}
use Rattle.spot_place.proofs.spot_case.SpotCase.spot.Goals as goal

pub berth-berth-requires : goal.berth-berth-requires
berth-berth-requires c = let full = whole-berths c.args.self.now c.requires.way c.requires.whole in let h = c.requires.ship in omega (arith, full, h)

pub x_of-requires : goal.x_of-requires
x_of-requires c = let full = whole-places c.args.self.now c.requires.way c.requires.whole in let h = c.requires.ship in omega (arith, full, h)
