use Rattle.std.proofs.Common.{subst, List}
use Rattle.refute_rules.specs.declared.choices.Berth.{Berth}
use Rattle.spot_place.specs.OnWay.{lying}
use Rattle.spot_place.specs.Heights.{AreHeights}
use Rattle.spot_place.proofs.KeptLemmas.{kept-moored}
use Rattle.spot_place.proofs.spot_case.SpotCase.moor.Goals as goal

pub invariant_of-self : goal.invariant_of-self
invariant_of-self c =
    let i = c.self.inside in
    let heights = c.heights_of-heights.result in
    kept-moored i.deck i.values i.berths.items i.places.items i.levels.items c.self.invariant c.args.self.now c.self.view_is c.args.berth c.push.new.self.items heights c.push-2.new.self.items
    c.requires.room c.requires.step c.requires.known c.requires.good c.push.ensures.items (subst (λ (ms : List Berth). AreHeights i.deck (lying ms) heights) c.as_slice.ensures.value c.heights_of-heights.ensures) c.push-2.ensures.items
