use Rattle.picture_command.proofs.CompleteLemmas.{standing_drawn}
use Rattle.picture_command.proofs.laws.standing_are_drawn.Goals as goal

pub returns : goal.returns
returns c = λ bytes I C stands dial s text answer. standing_drawn dial bytes I C s text stands answer
