use Rattle.std.proofs.Common.{refl, ◌∙◌}
use Rattle.sweep_labels.specs.Labels.{label_of}
use Rattle.sweep.proofs.GrownLemmas.{guided_on, sound_same}
use Rattle.sweep.proofs.GoingLemmas.{done_none}
use Rattle.sweep.proofs.LateLemmas.{zero_none}
use Rattle.sweep.proofs.JudgeLemmas.{no_value}
use Rattle.sweep.proofs.sweeper.Sweeper.late_cost.Goals as goal

pub returns-in_err-low-clause-sound : goal.returns-in_err-low-clause-sound
returns-in_err-low-clause-sound c = no_value _ c.from_residual.result c.from_residual.ensures.0

pub returns-in_err-low-clause-known : goal.returns-in_err-low-clause-known
returns-in_err-low-clause-known c = no_value _ c.from_residual.result c.from_residual.ensures.0

pub returns-in_err-low-clause-none : goal.returns-in_err-low-clause-none
returns-in_err-low-clause-none c = no_value _ c.from_residual.result c.from_residual.ensures.0

pub loop-init : goal.loop-init
loop-init c =
    let case = c.args.case.now in
    let old = c.args.self.now in
    record {
      sound = sound_same case old _ c.requires (guided_on case old.lanes.now _ old.known c.requires.guided c.in_ok-low.ensures.same) refl;
      known = refl;
      none = zero_none case (label_of c.args.label);
    }

pub returns-in_err-sweep_behind-clause-sound : goal.returns-in_err-sweep_behind-clause-sound
returns-in_err-sweep_behind-clause-sound c = no_value _ c.from_residual-in_err-sweep_behind.result c.from_residual-in_err-sweep_behind.ensures.0

pub returns-in_err-sweep_behind-clause-known : goal.returns-in_err-sweep_behind-clause-known
returns-in_err-sweep_behind-clause-known c = no_value _ c.from_residual-in_err-sweep_behind.result c.from_residual-in_err-sweep_behind.ensures.0

pub returns-in_err-sweep_behind-clause-none : goal.returns-in_err-sweep_behind-clause-none
returns-in_err-sweep_behind-clause-none c = no_value _ c.from_residual-in_err-sweep_behind.result c.from_residual-in_err-sweep_behind.ensures.0

pub returns-then-not-branch-clause-sound : goal.returns-then-not-branch-clause-sound
returns-then-not-branch-clause-sound c = c.in_ok-sweep_behind.ensures.sound

pub returns-then-not-branch-clause-known : goal.returns-then-not-branch-clause-known
returns-then-not-branch-clause-known c = c.in_ok-sweep_behind.ensures.known ∙ c.loop.invariant.known

pub returns-then-not-branch-clause-none : goal.returns-then-not-branch-clause-none
returns-then-not-branch-clause-none c = c.loop.invariant.none

pub returns-then-cost-goal-clause-sound : goal.returns-then-cost-goal-clause-sound
returns-then-cost-goal-clause-sound c = c.in_ok-sweep_behind.ensures.sound

pub returns-then-cost-goal-clause-known : goal.returns-then-cost-goal-clause-known
returns-then-cost-goal-clause-known c = c.in_ok-sweep_behind.ensures.known ∙ c.loop.invariant.known

pub returns-then-cost-goal-clause-none : goal.returns-then-cost-goal-clause-none
returns-then-cost-goal-clause-none c =
    done_none c.args.case.now c.sweep_behind.new.self.made (label_of c.args.label) (c.in_ok-sweep_behind.ensures.done c.if-not-branch.false)

pub loop-preserved : goal.loop-preserved
loop-preserved c = record {
  sound = c.in_ok-sweep_behind.ensures.sound;
  known = c.in_ok-sweep_behind.ensures.known ∙ c.loop.invariant.known;
  none = done_none c.args.case.now c.sweep_behind.new.self.made (label_of c.args.label) (c.in_ok-sweep_behind.ensures.done c.if-not-branch.false);
}

pub returns-clause-sound : goal.returns-clause-sound
returns-clause-sound c = c.loop.invariant.sound

pub returns-clause-known : goal.returns-clause-known
returns-clause-known c = c.loop.invariant.known

pub returns-clause-none : goal.returns-clause-none
returns-clause-none c = c.loop.invariant.none
