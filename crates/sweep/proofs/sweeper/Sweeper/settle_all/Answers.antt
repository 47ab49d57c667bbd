use Rattle.std.proofs.Common.{refl}
use Rattle.sweep.proofs.GrownLemmas.{further_same, further_more}
use Rattle.sweep.proofs.sweeper.Sweeper.settle_all.Goals as goal

pub loop-init : goal.loop-init
loop-init c = further_same c.args.case.now _ _ c.requires c.requires.guided refl refl

pub loop-preserved : goal.loop-preserved
loop-preserved c =
    let sound = c.loop.invariant.sound in
    further_more c.args.case.now _ _ _ c.loop.invariant
    (further_more c.args.case.now _ _ _ (further_same c.args.case.now _ _ sound sound.guided refl refl) c.in_ok-settle-in-Some.ensures)
