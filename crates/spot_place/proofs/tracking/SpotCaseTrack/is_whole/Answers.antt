use Rattle.std.proofs.Common.{arith}
use Rattle.spot_place.proofs.KeptLemmas.{shown-places, shown-way}
use Rattle.spot_place.proofs.TakeLemmas.{whole-length, length-whole}
use Rattle.spot_place.proofs.CaseLemmas.{eq_tells}
use Rattle.spot_place.proofs.tracking.SpotCaseTrack.is_whole.Goals as goal

pub returns : goal.returns
returns c =
    let i = c.self.inside in
    let s = c.args.self.now in
    let places = shown-places i.deck i.values i.berths.items i.places.items i.levels.items c.self.invariant s c.self.view_is in
    let way = shown-way i.deck i.values i.berths.items i.places.items i.levels.items c.self.invariant s c.self.view_is in
    eq_tells c.len.result c.ships.result _ (λ e. whole-length s way (omega (arith, e, places))) (λ e. let all = length-whole s way e in omega (arith, all, places))
