use Rattle.std.proofs.Common.{◌<◌, length, refl, arith, ap, ◌∙◌}
use Rattle.master_branch.specs.Steps.{group_in}
use Rattle.flow_bounds.proofs.WalkLemmas.{serve_all-next, walk-grows, finish-in-step}
use Rattle.flow_bounds.proofs.line_walks.finish.Goals as goal

pub overflow_sub-result : goal.overflow_sub-result
overflow_sub-result c =
    walk-grows c.args.instance.now c.args.chamber c.args.line.now c.args.along.now.walks c.requires.along.walks c.loop-i.i (omega arith)

pub returns-then-are_in_step-clause-value : goal.returns-then-are_in_step-clause-value
returns-then-are_in_step-clause-value c =
    let i = c.loop-i.i in
    let step = c.if-are_in_step.ensures in
    omega (
      arith,
      finish-in-step c.args.instance.now c.args.chamber c.args.line.now c.args.along.now.walks c.requires.along.walks i (omega arith) c.loop-i.walk step.0 step.1,
      walk-grows c.args.instance.now c.args.chamber c.args.line.now c.args.along.now.walks c.requires.along.walks i (omega arith),
      c.loop-i.invariant.rest,
    )

pub loop-i-preserved : goal.loop-i-preserved
loop-i-preserved c =
    let I = c.args.instance.now in
    let line = c.args.line.now in
    let i = c.loop-i.i in
    let less : i < length line = omega arith in
    let served = c.serve-walk.ensures.value (group_in line i) (c.requires.along.loads.each i less) in
    record {
      rest = ap (λ w. w.flow) (serve_all-next I c.args.chamber line i (group_in line i) less refl c.loop-i.walk c.serve-walk.result served) ∙ c.loop-i.invariant.rest;
      done = omega (arith, c.serve-walk.ensures.done, c.loop-i.invariant.done);
      flow = omega (arith, c.serve-walk.ensures.done, c.serve-walk.ensures.flow, c.loop-i.invariant.done, c.loop-i.invariant.flow, c.requires.few);
    }
