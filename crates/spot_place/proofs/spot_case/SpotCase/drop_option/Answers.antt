use Rattle.spot_place.proofs.TakeLemmas.{berth-back, place-back, some-place}
use Rattle.spot_place.proofs.spot_case.SpotCase.drop_option.Goals as goal

pub unplace-requires-clause-some : goal.unplace-requires-clause-some
unplace-requires-clause-some c = some-place c.args.self.now c.wants_place.ensures.way c.requires (c.wants_place.ensures.even c.if-wants_place.false)

pub returns-then-wants_place-clause-case : goal.returns-then-wants_place-clause-case
returns-then-wants_place-clause-case c = berth-back c.args.self.now c.wants_place.ensures.way c.unmoor.new.self (c.wants_place.ensures.wants.0 c.if-wants_place.true) c.unmoor.ensures

pub returns-else-wants_place-clause-case : goal.returns-else-wants_place-clause-case
returns-else-wants_place-clause-case c =
    let even = c.wants_place.ensures.even c.if-wants_place.false in
    place-back c.args.self.now c.wants_place.ensures.way c.unplace.new.self (some-place c.args.self.now c.wants_place.ensures.way c.requires even) even c.unplace.ensures
