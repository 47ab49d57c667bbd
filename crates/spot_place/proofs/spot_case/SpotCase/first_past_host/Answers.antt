use Rattle.std.proofs.Common.{rules, arith, ap, length, ◌≡◌, below_more}
use Rattle.refute_rules.specs.SpotFaults.{IsPastHost}
use Rattle.spot_place.specs.SpotCase.{OnWay, case_on}
use Rattle.spot_place.proofs.spot_case.SpotCase.first_past_host.Goals as goal

pub loop-ship-preserved : goal.loop-ship-preserved
loop-ship-preserved c =
    let none : IsPastHost c.args.self.now.deck (case_on c.args.self.now) c.loop-ship.ship → ⊥ = search rules in
    below_more _ _ c.loop-ship.invariant none

pub returns-clause-none : goal.returns-clause-none
returns-clause-none c =
    let shown : length c.self.inside.places.items ≡ length c.args.self.now.places = ap (λ (s : OnWay). length s.places) c.self.view_is in
    record { each = λ i h. c.loop-ship.invariant i (omega arith) }
