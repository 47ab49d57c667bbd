use Rattle.std.proofs.Common.{ap, sym, ◌∙◌, List, Some}
use Rattle.refute_rules.specs.declared.choices.Berth.{Berth}
use Rattle.spot_place.specs.OnWay.{berth_at}
use Rattle.spot_place.proofs.KeptLemmas.{shown-berth}
use Rattle.spot_place.proofs.spot_case.SpotCase.berth.Goals as goal

pub returns : goal.returns
returns c =
    let i = c.self.inside in
    shown-berth i.deck i.values i.berths.items i.places.items i.levels.items c.self.invariant c.args.self.now c.self.view_is c.args.ship c.requires
    ∙ ap (λ (ms : List Berth). Some (berth_at ms c.args.ship)) (sym c.deref.ensures.0)
