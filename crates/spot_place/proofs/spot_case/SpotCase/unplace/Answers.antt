use Rattle.std.proofs.Common.{ap, ◌-◌, ℕ}
use Rattle.spot_place.proofs.KeptLemmas.{kept-unplaced}
use Rattle.spot_place.proofs.spot_case.SpotCase.unplace.Goals as goal

pub invariant_of-self : goal.invariant_of-self
invariant_of-self c =
    let i = c.self.inside in
    kept-unplaced i.deck i.values i.berths.items i.places.items i.levels.items c.self.invariant c.args.self.now c.self.view_is (c.len-count.result - 1) c.truncate.new.self.items
    (ap (λ (n : ℕ). n - 1) c.len-count.ensures.value) c.requires.some c.requires.step c.truncate.ensures.items
