use Rattle.std.proofs.Common.{◌≡◌, arith, subst}
use Rattle.std.proofs.lemmas.Grind.{common_steps}
use Rattle.lock_rules.specs.Timetable.{timetable_of, starts_of}
use Rattle.lock_rules.specs.Lawful.{AreEarliest}
use Rattle.lock_rules.proofs.TimetableLemmas.{timetable-earliest}
use Rattle.chamber_times.proofs.timetable.earliest.Goals as goal

pub returns-clause-starts : goal.returns-clause-starts
returns-clause-starts c =
    let I = c.args.instance.now in
    let table : timetable_of I c.args.chamber c.args.line.now ≡ c.loop-group.times = grind (arith, common_steps) in
    subst (λ ts. AreEarliest I c.args.chamber c.args.line.now (starts_of ts)) table (timetable-earliest I c.args.chamber c.requires.chamber_in c.args.line.now)
