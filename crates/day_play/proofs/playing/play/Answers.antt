use Rattle.std.proofs.Common.{refl}
use Rattle.day_play.proofs.DayLemmas.{played_lawful, played_comes}
use Rattle.day_play.proofs.LegalDayLemmas.{has-day-legal}
use Rattle.day_play.proofs.playing.play.Goals as goal

pub returns-in-None-clause-lawful : goal.returns-in-None-clause-lawful
returns-in-None-clause-lawful c = played_lawful c.args.instance.now c.args.plan.now c.day_of.result (c.in-None.ensures.none.0 refl) c.day_of.ensures

pub returns-in-None-clause-room : goal.returns-in-None-clause-room
returns-in-None-clause-room c = played_comes c.args.instance.now c.args.plan.now (c.in-None.ensures.none.0 refl)

pub returns-in-None-clause-exactly : goal.returns-in-None-clause-exactly
returns-in-None-clause-exactly c = has-day-legal c.args.instance.now c.args.plan.now c.learn_rising.ensures

pub returns-in-Some-clause-exactly : goal.returns-in-Some-clause-exactly
returns-in-Some-clause-exactly c = has-day-legal c.args.instance.now c.args.plan.now c.learn_rising.ensures
