use Rattle.lock_model.specs.declared.way.Way.TheVariants.{Up}
use Rattle.sweep_labels.specs.Labels.{label_of}
use Rattle.sweep.proofs.GrownLemmas.{further_more, way_led_on}
use Rattle.sweep.proofs.sweeper.Sweeper.go_by_both.Goals as goal

pub returns-clause-further : goal.returns-clause-further
returns-clause-further c = further_more c.args.case.now _ _ _ c.in_ok-go_by.ensures.further c.in_ok-go_by-2.ensures.further

pub returns-clause-up : goal.returns-clause-up
returns-clause-up c = way_led_on c.args.case.now _ _ (label_of c.args.from.now.label) c.args.chamber Up c.in_ok-go_by-2.ensures.further.grown c.in_ok-go_by.ensures.led
