use Rattle.std.proofs.Common.{◌≡◌, length, refl, ap, subst, arith}
use Rattle.sweep_labels.specs.Labels.{label_of}
use Rattle.sweep.specs.Going.{AreLed}
use Rattle.sweep.proofs.GrownLemmas.{further_same, further_more, led_none, led_more}
use Rattle.sweep.proofs.sweeper.Sweeper.go_by_all.Goals as goal

pub loop-chamber-init : goal.loop-chamber-init
loop-chamber-init c = record {
  further = further_same c.args.case.now _ _ c.requires.sound c.requires.sound.guided refl refl;
  led = led_none c.args.case.now _ (label_of c.args.from.now.label);
}

pub loop-chamber-preserved : goal.loop-chamber-preserved
loop-chamber-preserved c = record {
  further = further_more c.args.case.now _ _ _ c.loop-chamber.invariant.further c.in_ok-go_by_both.ensures.further;
  led = led_more c.args.case.now _ _ (label_of c.args.from.now.label) c.loop-chamber.chamber c.in_ok-go_by_both.ensures.further.grown c.in_ok-go_by_both.ensures.up c.in_ok-go_by_both.ensures.down c.loop-chamber.invariant.led;
}

pub returns-clause-led : goal.returns-clause-led
returns-clause-led c =
    let all : c.loop-chamber.chamber ≡ length c.args.case.now.instance.now.chambers = omega (arith, c.loop-chamber-test.false, c.loop-chamber.auto.chamber-end, ap length c.as_slice.ensures.value) in
    subst (λ n. AreLed c.args.case.now c.loop-chamber.self.made (label_of c.args.from.now.label) n) all c.loop-chamber.invariant.led
