use Rattle.spot_place.proofs.KeptLemmas.{kept-placed}
use Rattle.spot_place.proofs.spot_case.SpotCase.place.Goals as goal

pub invariant_of-self : goal.invariant_of-self
invariant_of-self c =
    let i = c.self.inside in
    kept-placed i.deck i.values i.berths.items i.places.items i.levels.items c.self.invariant c.args.self.now c.self.view_is c.args.x c.push.new.self.items c.requires.step c.requires.good c.push.ensures.items
