use Rattle.std.proofs.Common.{◌<◌, ◌≤◌, ◌+◌, length, ap, refl, arith, ◌∙◌, sym, subst}
use Rattle.master_branch.specs.Steps.{group_in}
use Rattle.flow_bounds.specs.Walk.{serve, walk_at}
use Rattle.flow_bounds.specs.Entering.{IsBehind}
use Rattle.flow_bounds.proofs.WalkLemmas.{serve_all-next, walk-grows, finish-in-step}
use Rattle.flow_bounds.proofs.EnterLemmas.{walk-step, behind-served, behind-ends}
use Rattle.flow_bounds.proofs.line_walks.flow_below.Goals as goal

pub overflow_sub-least : goal.overflow_sub-least
overflow_sub-least c =
    walk-grows c.args.instance.now c.args.chamber c.args.line.now c.args.along.now.walks c.requires.along.walks c.loop-i.i (omega arith)

pub returns-then-least-below-clause-none : goal.returns-then-least-below-clause-none
returns-then-least-below-clause-none c =
    let I = c.args.instance.now in
    let i = c.loop-i.i in
    let within : i ≤ length c.args.line.now = omega arith in
    omega (
      arith,
      behind-ends I c.args.chamber c.requires.chamber_in c.args.line.now c.args.along.now.walks c.requires.along.walks i within c.loop-i.walk c.loop-i.invariant.behind,
      walk-grows I c.args.chamber c.args.line.now c.args.along.now.walks c.requires.along.walks i within,
      c.if-least-below.true,
      c.loop-i.invariant.rest,
    )

pub returns-then-are_in_step-clause-value : goal.returns-then-are_in_step-clause-value
returns-then-are_in_step-clause-value c =
    let I = c.args.instance.now in
    let i = c.loop-i.i in
    let within : i ≤ length c.args.line.now = omega arith in
    let step = c.if-are_in_step.ensures in
    omega (
      arith,
      finish-in-step I c.args.chamber c.args.line.now c.args.along.now.walks c.requires.along.walks i within c.loop-i.walk step.0 step.1,
      walk-grows I c.args.chamber c.args.line.now c.args.along.now.walks c.requires.along.walks i within,
      c.loop-i.invariant.rest,
    )

pub loop-i-preserved : goal.loop-i-preserved
loop-i-preserved c =
    let I = c.args.instance.now in
    let ch = c.args.chamber in
    let line = c.args.line.now in
    let ws = c.args.along.now.walks in
    let i = c.loop-i.i in
    let w = c.loop-i.walk in
    let less : i < length line = omega arith in
    let g = group_in line i in
    let served = c.serve-walk.ensures.value g (c.requires.along.loads.each i less) in
    record {
      rest = ap (λ w. w.flow) (serve_all-next I ch line i g less refl w c.serve-walk.result served) ∙ c.loop-i.invariant.rest;
      behind = subst (λ x. IsBehind I ch x (walk_at ws (i + 1))) (sym served) (subst (IsBehind I ch (serve I ch w g)) (sym (walk-step I ch line ws c.requires.along.walks i less g refl)) (behind-served I ch c.requires.chamber_in w (walk_at ws i) g c.loop-i.invariant.behind));
      done = omega (arith, c.serve-walk.ensures.done, c.loop-i.invariant.done);
      flow = omega (arith, c.serve-walk.ensures.done, c.serve-walk.ensures.flow, c.loop-i.invariant.done, c.loop-i.invariant.flow, c.requires.few);
    }
