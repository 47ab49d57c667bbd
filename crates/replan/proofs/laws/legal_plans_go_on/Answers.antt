use Rattle.std.proofs.Common.{refl}
use Rattle.day_play.specs.Playing.{day_of}
use Rattle.day_play.proofs.DayLemmas.{played_lawful}
use Rattle.replan.proofs.PlayedLemmas.{keeps-own, played-goes_on}
use Rattle.replan.proofs.laws.legal_plans_go_on.Goals as goal

pub returns : goal.returns
returns c = λ I P M legal can.
    let day = played_lawful I P (day_of I P) legal refl in
    let goes_on = played-goes_on I P M legal can in (
      goes_on,
      record { keeps = keeps-own I P M legal can; day = day_of I P; lawful = record { rising = day.rising; lawful = day.lawful; over = day.over }; goes_on = goes_on },
    )
