use Rattle.spot_place.specs.SpotCase.{case_on}
use Rattle.spot_place.proofs.TakeLemmas.{has-room, berth-option_few, place-option_few, with_berth, with_place}
use Rattle.spot_place.proofs.spot_case.SpotCase.take_option.Goals as goal

pub take_place-requires-clause-option : goal.take_place-requires-clause-option
take_place-requires-clause-option c = place-option_few c.args.self.now c.wants_place.ensures.way (c.wants_place.ensures.wants.0 c.if-wants_place.true) c.args.option c.requires.option

pub take_berth-requires-clause-room : goal.take_berth-requires-clause-room
take_berth-requires-clause-room c = has-room c.args.self.now c.wants_place.ensures.way (c.wants_place.ensures.even c.if-wants_place.false) c.args.option c.requires.option

pub take_berth-requires-clause-option : goal.take_berth-requires-clause-option
take_berth-requires-clause-option c = berth-option_few c.args.self.now c.wants_place.ensures.way (c.wants_place.ensures.even c.if-wants_place.false) c.args.option c.requires.option

pub returns-then-wants_place-clause-case : goal.returns-then-wants_place-clause-case
returns-then-wants_place-clause-case c = with_place c.args.self.now c.wants_place.ensures.way (case_on c.take_place.new.self) c.args.option (c.wants_place.ensures.wants.0 c.if-wants_place.true) c.take_place.ensures.case

pub returns-else-wants_place-clause-case : goal.returns-else-wants_place-clause-case
returns-else-wants_place-clause-case c = with_berth c.args.self.now c.wants_place.ensures.way (case_on c.take_berth.new.self) c.args.option (c.wants_place.ensures.even c.if-wants_place.false) c.requires.option c.take_berth.ensures.case
