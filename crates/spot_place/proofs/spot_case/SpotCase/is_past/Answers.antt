use Rattle.std.proofs.Common.{refl, sym}
use Rattle.spot_place.specs.SpotCase.{case_on}
use Rattle.spot_place.proofs.CaseLemmas.{when_false}
use Rattle.spot_place.proofs.FaultLemmas.{no_host_x}
use Rattle.spot_place.proofs.KeptLemmas.{shown-no_x}
use Rattle.spot_place.proofs.spot_case.SpotCase.is_past.Goals as goal

pub returns-then-host-len : goal.returns-then-host-len
returns-then-host-len c =
    let i = c.self.inside in
    let s = c.args.self.now in
    when_false _ _ refl (no_host_x s.deck (case_on s) c.args.ship c.args.host (sym c.requires.host) (shown-no_x i.deck i.values i.berths.items i.places.items i.levels.items c.self.invariant s c.self.view_is c.len.result c.args.host c.len.ensures.value c.if-host-len.true))
