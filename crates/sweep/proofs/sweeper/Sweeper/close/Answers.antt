use Rattle.std.proofs.Common.{refl}
use Rattle.sweep.proofs.GrownLemmas.{closed_further}
use Rattle.sweep.proofs.sweeper.Sweeper.close.Goals as goal

pub returns : goal.returns
returns c = closed_further c.args.case.now _ _ c.args.number c.requires.sound c.requires.sound.guided refl refl c.close.ensures.items c.close.ensures.closed c.requires.treated
