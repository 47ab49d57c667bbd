use Rattle.std.proofs.Common.{subst, List, length}
use Rattle.refute_rules.specs.Decided.{HasOtherRank}
use Rattle.refute_rules.specs.declared.choices.Berth.{Berth}
use Rattle.spot_place.specs.OnWay.{lying, IsBack, NoneBelow}
use Rattle.spot_place.proofs.JudgeLemmas.{shown-rank, shown-back, shown-faultless}
use Rattle.spot_place.proofs.spot_case.SpotCase.fault_by_berth.Goals as goal

pub returns-in-Some-clause-some : goal.returns-in-Some-clause-some
returns-in-Some-clause-some c =
    let i = c.self.inside in
    shown-rank i.deck i.berths.items i.places.items c.args.self.now c.self.view_is c.in-Some.ship (subst (λ (ms : List Berth). HasOtherRank (lying ms) c.in-Some.ship) c.as_slice-berths.ensures.value c.in-Some.ensures.some)

pub returns-in-Some-first_leading_back-clause-some : goal.returns-in-Some-first_leading_back-clause-some
returns-in-Some-first_leading_back-clause-some c =
    let i = c.self.inside in
    shown-back i.deck i.berths.items i.places.items c.args.self.now c.self.view_is c.ships.result c.in-Some-first_leading_back.ship c.ships.ensures.value (subst (λ (ms : List Berth). IsBack (lying ms) c.ships.result c.in-Some-first_leading_back.ship) c.as_slice-berths.ensures.value c.in-Some-first_leading_back.ensures.some)

pub returns-clause-none : goal.returns-clause-none
returns-clause-none c =
    let i = c.self.inside in
    shown-faultless i.deck i.berths.items i.places.items c.args.self.now c.self.view_is c.ships.result c.ships.ensures.value c.requires.step c.requires.way
    (subst (λ (ms : List Berth). NoneBelow (HasOtherRank (lying ms)) (length ms)) c.as_slice-berths.ensures.value c.in_default.ensures.none)
    (subst (λ (ms : List Berth). NoneBelow (IsBack (lying ms) c.ships.result) (length ms)) c.as_slice-berths.ensures.value c.in_default-first_leading_back.ensures.none)
    c.in_default-first_outside_across.ensures.none c.in_default-two_touching.ensures.none
