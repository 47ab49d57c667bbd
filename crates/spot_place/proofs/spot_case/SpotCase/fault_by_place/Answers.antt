use Rattle.std.proofs.Common.{rules}
use Rattle.refute_rules.specs.SpotFaults.{IsOutsideAlong}
use Rattle.spot_place.specs.SpotCase.{case_on}
use Rattle.spot_place.proofs.JudgeLemmas.{place-exact}
use Rattle.spot_place.proofs.spot_case.SpotCase.fault_by_place.Goals as goal

pub returns-clause-none : goal.returns-clause-none
returns-clause-none c =
    let s = c.args.self.now in
    let along : IsOutsideAlong s.deck (case_on s) c.args.last → ⊥ = search rules in
    place-exact s.deck s.berths s.places c.requires.way c.args.last c.requires.berths c.requires.places along c.in_default.ensures.none c.in_default-first_touching.ensures.none
