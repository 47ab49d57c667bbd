use Rattle.std.proofs.Common.{◌≡◌, ◌<◌, [], length, map, nat_le, arith, ap, ◌∙◌, sym, subst, slice_index_or}
use Rattle.std.proofs.lemmas.Grind.{common_steps}
use Rattle.std.proofs.lemmas.Simd.{map-map}
use Rattle.lock_rules.specs.Bound.{node_flow}
use Rattle.lock_rules.specs.Node.{line_at}
use Rattle.master_branch.specs.declared.step.Step.TheVariants.{Join}
use Rattle.master_branch.specs.Steps.{lines_after, steps_by}
use Rattle.master_branch.proofs.StepLemmas.{steps-children}
use Rattle.flow_bounds.specs.Along.{IsAlong}
use Rattle.flow_bounds.specs.Walk.{chamber_of}
use Rattle.flow_bounds.proofs.ProbeLemmas.{listed-step, step_chamber}
use Rattle.flow_bounds.proofs.reaching.reached_by.Goals as goal

pub bounds-walks-chamber_of : goal.bounds-walks-chamber_of
bounds-walks-chamber_of c =
    let I = c.args.instance.now in
    let lines = c.args.node.now.lines in
    let steps = c.as_slice-step-items.result.now in
    let listed : steps ≡ steps_by I c.args.ship lines = c.as_slice-step-items.ensures.value ∙ c.requires.steps in
    let less : c.loop-step.step-index < length steps = omega arith in
    omega (arith, c.chamber_of.ensures, step_chamber I c.args.ship lines _ (listed-step I c.args.ship lines steps listed c.loop-step.step-index (Join 0 0) less), I.limits.chamber_count.1)

pub reaches_after-requires-clause-step : goal.reaches_after-requires-clause-step
reaches_after-requires-clause-step c =
    let steps = c.as_slice-step-items.result.now in
    let listed : steps ≡ steps_by c.args.instance.now c.args.ship c.args.node.now.lines = c.as_slice-step-items.ensures.value ∙ c.requires.steps in
    let less : c.loop-step.step-index < length steps = omega arith in
    listed-step c.args.instance.now c.args.ship c.args.node.now.lines steps listed c.loop-step.step-index (Join 0 0) less

pub reaches_after-requires-clause-along : goal.reaches_after-requires-clause-along
reaches_after-requires-clause-along c =
    let I = c.args.instance.now in
    let lines = c.args.node.now.lines in
    let steps = c.as_slice-step-items.result.now in
    let listed : steps ≡ steps_by I c.args.ship lines = c.as_slice-step-items.ensures.value ∙ c.requires.steps in
    let less : c.loop-step.step-index < length steps = omega arith in
    let step = slice_index_or steps c.loop-step.step-index (Join 0 0) in
    let chamber = chamber_of step in
    subst (λ k. IsAlong I chamber (line_at lines chamber) (slice_index_or c.walk_all-total.new.walks.lines k (record { walks = []; loads = [] }))) (sym c.chamber_of.ensures)
    (c.walk_all-total.ensures.along.each chamber (step_chamber I c.args.ship lines step (listed-step I c.args.ship lines steps listed c.loop-step.step-index (Join 0 0) less)))

pub returns : goal.returns
returns c =
    let I = c.args.instance.now in
    let lines = c.args.node.now.lines in
    let after = lines_after I c.args.ship lines in
    let all : c.loop-step.reached ≡ map (λ step. nat_le c.args.need (node_flow I (after step))) c.as_slice-step-items.result.now = grind (arith, common_steps) in
    all
    ∙ ap (map (λ step. nat_le c.args.need (node_flow I (after step)))) (c.as_slice-step-items.ensures.value ∙ c.requires.steps)
    ∙ sym (map-map (λ lines. nat_le c.args.need (node_flow I lines)) after (steps_by I c.args.ship lines))
    ∙ ap (map (λ lines. nat_le c.args.need (node_flow I lines))) (steps-children I c.args.ship lines)
