use Rattle.std.proofs.Common.{rules, refl, sym}
use Rattle.spot_place.proofs.CaseLemmas.{when_false, rank-quay, rank-undecided, rank-tells}
use Rattle.spot_place.proofs.berths.has_other_rank.Goals as goal

pub returns-in-None : goal.returns-in-None
returns-in-None c = when_false _ _ refl (rank-quay c.args.berths.now c.args.ship (sym c.in-None.ensures))

pub returns-then-host-berths : goal.returns-then-host-berths
returns-then-host-berths c = rank-tells c.args.berths.now c.args.ship c.requires c.in-Some.host (sym c.in-Some.ensures) c.if-host-berths.true c.differ.result c.differ.ensures

pub returns-else-host-berths : goal.returns-else-host-berths
returns-else-host-berths c = when_false _ _ (search rules) (rank-undecided c.args.berths.now c.args.ship c.in-Some.host (sym c.in-Some.ensures) c.if-host-berths.false)
