use Rattle.spot_place.proofs.KeptLemmas.{shown-way}
use Rattle.spot_place.proofs.spot_case.SpotCase.wants_place.Goals as goal

pub returns-clause-way : goal.returns-clause-way
returns-clause-way c =
    let i = c.self.inside in
    shown-way i.deck i.values i.berths.items i.places.items i.levels.items c.self.invariant c.args.self.now c.self.view_is
