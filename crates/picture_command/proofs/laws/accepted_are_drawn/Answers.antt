use Rattle.picture_command.proofs.CompleteLemmas.{accepted_drawn}
use Rattle.picture_command.proofs.laws.accepted_are_drawn.Goals as goal

pub returns : goal.returns
returns c = λ bytes I C accepted dial s text answer. accepted_drawn dial bytes I C s text accepted answer
