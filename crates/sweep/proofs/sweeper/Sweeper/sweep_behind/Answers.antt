use Rattle.std.proofs.Common.{◌∙◌}
use Rattle.sweep_labels.specs.Labels.{label_of}
use Rattle.sweep.proofs.GoingLemmas.{end_done}
use Rattle.sweep.proofs.sweeper.Sweeper.sweep_behind.Goals as goal

pub returns-clause-sound : goal.returns-clause-sound
returns-clause-sound c = c.in_ok-done.ensures.further.sound

pub returns-clause-known : goal.returns-clause-known
returns-clause-known c = c.in_ok-done.ensures.further.known ∙ c.in_ok-begin.ensures.further.known ∙ c.in_ok-restart.ensures.known

pub returns-clause-done : goal.returns-clause-done
returns-clause-done c told =
    end_done c.args.case.now c.begin.new.self c.run.new.self (label_of c.args.label) c.in_ok-begin.ensures.met c.in_ok-done.ensures.further (c.in_ok-done.ensures.closed told)
