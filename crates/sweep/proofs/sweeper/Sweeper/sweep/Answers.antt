use Rattle.sweep_labels.specs.Labels.{label_of}
use Rattle.sweep.proofs.GoingLemmas.{done_swept}
use Rattle.sweep.proofs.sweeper.Sweeper.sweep.Goals as goal

pub returns-clause-swept : goal.returns-clause-swept
returns-clause-swept c told =
    done_swept c.args.case.now c.sweep_behind.new.self.made (label_of c.args.self.now.known.first) c.requires.guided.first (c.in_ok-done.ensures.done told)
