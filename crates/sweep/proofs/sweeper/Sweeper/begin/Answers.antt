use Rattle.std.proofs.Common.{refl}
use Rattle.sweep.proofs.GrownLemmas.{guided_on, sound_same, further_same, further_more}
use Rattle.sweep.proofs.sweeper.Sweeper.begin.Goals as goal

pub keep-requires : goal.keep-requires
keep-requires c = sound_same c.args.case.now _ _ c.requires (guided_on c.args.case.now _ _ _ c.requires.guided c.in_ok-gains.ensures.same) refl

pub returns-clause-further : goal.returns-clause-further
returns-clause-further c =
    further_more c.args.case.now _ _ _ (further_same c.args.case.now _ _ c.requires (guided_on c.args.case.now _ _ _ c.requires.guided c.in_ok-gains.ensures.same) refl refl) c.in_ok-keep.ensures.further
