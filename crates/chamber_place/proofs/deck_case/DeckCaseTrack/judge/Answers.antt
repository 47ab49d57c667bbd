use Rattle.std.proofs.Common.{subst}
use Rattle.refute_rules.specs.Cases.{IsConsistent}
use Rattle.chamber_place.specs.OnItsWay.{IsState}
use Rattle.chamber_place.proofs.WayLemmas.{whole-consistent}
use Rattle.chamber_place.proofs.deck_case.DeckCaseTrack.judge.Goals as goal

pub returns-in-None : goal.returns-in-None
returns-in-None c =
    let i = c.self.inside in
    let count = subst (IsState i.deck i.choices.items i.paths.items) c.in-None.is c.self.invariant.state in
    subst (λ v. IsConsistent v.deck v.case) c.self.view_is (whole-consistent i.deck i.decisions i.choices.items i.edges i.paths.items i.fault c.self.invariant count)
