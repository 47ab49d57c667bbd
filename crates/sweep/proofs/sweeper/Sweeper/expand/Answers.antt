use Rattle.std.proofs.Common.{refl}
use Rattle.sweep.proofs.GrownLemmas.{guided_on, sound_same, further_same, further_more}
use Rattle.sweep.proofs.JudgeLemmas.{no_value}
use Rattle.sweep.proofs.sweeper.Sweeper.expand.Goals as goal

pub returns-in_err-missing : goal.returns-in_err-missing
returns-in_err-missing c = no_value _ c.from_residual.result c.from_residual.ensures.0

pub returns-in_err-gains : goal.returns-in_err-gains
returns-in_err-gains c = no_value _ c.from_residual-in_err-gains.result c.from_residual-in_err-gains.ensures.0

pub treat-requires-clause-sound : goal.treat-requires-clause-sound
treat-requires-clause-sound c =
    let case = c.args.case.now in
    let old = c.args.self.now in
    sound_same case old _ c.requires.sound (guided_on case old.lanes.now _ old.known c.requires.sound.guided c.in_ok-gains.ensures.same) refl

pub treat-requires-clause-origin : goal.treat-requires-clause-origin
treat-requires-clause-origin c = record { missing = c.in_ok-missing.ensures; gains = c.in_ok-gains.ensures.gains }

pub returns-in_err-treat : goal.returns-in_err-treat
returns-in_err-treat c = no_value _ c.from_residual-in_err-treat.result c.from_residual-in_err-treat.ensures.0

pub returns : goal.returns
returns c =
    let case = c.args.case.now in
    let old = c.args.self.now in
    further_more case old _ _ (further_same case old _ c.requires.sound (guided_on case old.lanes.now _ old.known c.requires.sound.guided c.in_ok-gains.ensures.same) refl refl) c.in_ok-treat.ensures
