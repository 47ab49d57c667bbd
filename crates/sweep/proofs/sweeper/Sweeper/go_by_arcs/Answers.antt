use Rattle.std.proofs.Common.{refl}
use Rattle.sweep.proofs.GrownLemmas.{further_same, further_more, arcs_led_none, arcs_led_more}
use Rattle.sweep.proofs.sweeper.Sweeper.go_by_arcs.Goals as goal

pub loop-place-init : goal.loop-place-init
loop-place-init c = record {
  further = further_same c.args.case.now _ _ c.requires.sound c.requires.sound.guided refl refl;
  led = arcs_led_none c.args.case.now _ c.args.from.now.label c.args.chamber c.args.way c.args.arcs.now;
}

pub loop-place-preserved : goal.loop-place-preserved
loop-place-preserved c = record {
  further = further_more c.args.case.now _ _ _ c.loop-place.invariant.further c.in_ok-go_on.ensures.further;
  led = arcs_led_more c.args.case.now _ _ c.args.from.now.label c.args.chamber c.args.way c.loop-place.place c.args.arcs.now c.in_ok-go_on.ensures.further.grown c.in_ok-go_on.ensures.led c.loop-place.invariant.led;
}
