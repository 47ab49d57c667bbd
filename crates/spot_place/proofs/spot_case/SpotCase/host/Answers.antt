use Rattle.std.proofs.Common.{ap, ◌∙◌, List, ◌≡◌}
use Rattle.refute_rules.specs.Decided.{berth_in}
use Rattle.refute_rules.specs.Known.{host_of}
use Rattle.refute_rules.specs.declared.choices.Berth.{Berth}
use Rattle.spot_place.specs.OnWay.{lying}
use Rattle.spot_place.proofs.KeptLemmas.{shown-host, shown-host_known}
use Rattle.spot_place.proofs.spot_case.SpotCase.host.Goals as goal

is : (c : goal.After-host_of) → c.host_of.result ≡ host_of (berth_in (lying c.self.inside.berths.items) c.args.ship)
is c = c.host_of.ensures ∙ ap (λ (ms : List Berth). host_of (berth_in (lying ms) c.args.ship)) c.as_slice.ensures.value

pub returns-clause-host : goal.returns-clause-host
returns-clause-host c = let i = c.self.inside in is c ∙ shown-host i.deck i.values i.berths.items i.places.items i.levels.items c.self.invariant c.args.self.now c.self.view_is c.args.ship

pub returns-clause-known : goal.returns-clause-known
returns-clause-known c = let i = c.self.inside in shown-host_known i.deck i.values i.berths.items i.places.items i.levels.items c.self.invariant c.args.self.now c.self.view_is c.host_of.result c.args.ship (is c)
