use Rattle.std.proofs.Common.{refl}
use Rattle.sweep.proofs.GrownLemmas.{kept_further}
use Rattle.sweep.specs.Bounds.{cuts_of}
use Rattle.sweep.proofs.sweeper.Sweeper.keep.Goals as goal

pub returns-clause-further : goal.returns-clause-further
returns-clause-further c = kept_further c.args.case.now _ _ c.args.kept c.requires c.requires.guided refl c.in_ok-number.ensures

pub returns-clause-met : goal.returns-clause-met
returns-clause-met c = c.in_ok-number.ensures.met c.args.case.now.instance.now (cuts_of c.args.case.now)
