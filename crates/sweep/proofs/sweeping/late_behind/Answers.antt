use Rattle.std.proofs.Common.{refl}
use Rattle.sweep.proofs.GrownLemmas.{guided_on, sound_same}
use Rattle.sweep.proofs.sweeping.late_behind.Goals as goal

pub returns : goal.returns
returns c =
    let case = c.args.case.now in
    let old = c.args.sweeper.now in
    sound_same case old _ c.requires (guided_on case old.lanes.now _ old.known c.requires.guided c.in_ok-late.ensures.same) refl
