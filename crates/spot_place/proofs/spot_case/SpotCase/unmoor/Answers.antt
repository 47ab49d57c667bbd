use Rattle.spot_place.proofs.KeptLemmas.{kept-unmoored}
use Rattle.spot_place.proofs.spot_case.SpotCase.unmoor.Goals as goal

pub invariant_of-self : goal.invariant_of-self
invariant_of-self c =
    let i = c.self.inside in
    kept-unmoored i.deck i.values i.berths.items i.places.items i.levels.items c.self.invariant c.args.self.now c.self.view_is c.len-count.result c.truncate.new.self.items c.truncate-2.new.self.items
    c.len-count.ensures.value c.requires c.truncate.ensures.items c.truncate-2.ensures.items
