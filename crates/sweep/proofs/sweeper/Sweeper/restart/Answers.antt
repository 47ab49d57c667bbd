use Rattle.sweep.proofs.EndLemmas.{sound_first}
use Rattle.sweep.proofs.sweeper.Sweeper.restart.Goals as goal

pub returns-clause-sound : goal.returns-clause-sound
returns-clause-sound c = sound_first c.args.case.now _ c.requires.arrive c.requires.guided c.in_ok-self.ensures.0 c.in_ok-self.ensures.1
