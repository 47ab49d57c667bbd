use Rattle.std.proofs.Common.{ap, sym, ◌∙◌, List, ℕ, Some, slice_index_or}
use Rattle.spot_place.proofs.KeptLemmas.{shown-x, shown-ship}
use Rattle.spot_place.proofs.spot_case.SpotCase.x_of.Goals as goal

pub returns-clause-decided : goal.returns-clause-decided
returns-clause-decided c =
    let i = c.self.inside in
    shown-x i.deck i.values i.berths.items i.places.items i.levels.items c.self.invariant c.args.self.now c.self.view_is c.args.ship c.requires
    ∙ ap (λ (xs : List ℕ). Some (slice_index_or xs c.args.ship 0)) (sym c.deref.ensures.0)

pub returns-clause-ship : goal.returns-clause-ship
returns-clause-ship c = let i = c.self.inside in shown-ship i.deck i.values i.berths.items i.places.items i.levels.items c.self.invariant c.args.self.now c.self.view_is c.args.ship c.requires
