use Rattle.std.proofs.Common.{arith}
use Rattle.spot_place.proofs.JudgeLemmas.{shown-empty}
use Rattle.spot_place.proofs.KeptLemmas.{shown-places, shown-berths}
use Rattle.spot_place.proofs.spot_case.SpotCase.fault.Goals as goal

pub returns-then-places-eq0-clause-none : goal.returns-then-places-eq0-clause-none
returns-then-places-eq0-clause-none c =
    let i = c.self.inside in
    let s = c.args.self.now in
    let even = c.wants_place.ensures.even c.if-wants_place.false in
    let places = shown-places i.deck i.values i.berths.items i.places.items i.levels.items c.self.invariant s c.self.view_is in
    let berths = shown-berths i.deck i.values i.berths.items i.places.items i.levels.items c.self.invariant s c.self.view_is in
    shown-empty i.deck i.berths.items i.places.items s c.self.view_is (omega (arith, even, places, berths)) (omega arith)
