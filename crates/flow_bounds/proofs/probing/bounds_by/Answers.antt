use Rattle.std.proofs.Common.{◌≡◌, ◌+◌, ◌≤◌, [], map, All, arith, ap, ◌∙◌, sym, subst}
use Rattle.std.proofs.lemmas.Grind.{common_steps}
use Rattle.std.proofs.lemmas.Simd.{map-map}
use Rattle.std.proofs.lemmas.List.Elements.{All-append, All-cons, All-nil}
use Rattle.lock_rules.specs.Node.{line_at}
use Rattle.lock_rules.specs.Bound.{node_flow}
use Rattle.flow_bounds.specs.Along.{IsAlong}
use Rattle.master_branch.specs.declared.step.Step.{Step}
use Rattle.master_branch.specs.declared.step.Step.TheVariants.{Join}
use Rattle.master_branch.specs.Steps.{lines_after}
use Rattle.flow_bounds.proofs.ProbeLemmas.{missing-once, missing-lacks, map-more}
use Rattle.flow_bounds.specs.Most.{most_bound}
use Rattle.flow_bounds.proofs.probing.bounds_by.Goals as goal

pub steps_by-steps-requires-clause-lacks : goal.steps_by-steps-requires-clause-lacks
steps_by-steps-requires-clause-lacks c =
    let I = c.args.instance.now in
    let n = c.args.node.now in
    missing-lacks I n.depth c.args.ship (missing-once I n.depth n.lines c.requires.node c.args.ship c.requires.ship_in c.requires.absent)

pub loop-step-preserved : goal.loop-step-preserved
loop-step-preserved c =
    let I = c.args.instance.now in
    let f = λ (step : Step). node_flow I (lines_after I c.args.ship c.args.node.now.lines step) + c.args.rest in
    record {
      along = subst (λ k. IsAlong I k (line_at c.args.node.now.lines k) c.turn_to.new.along) (sym c.turn_to.ensures.at) c.turn_to.ensures.along;
      value = c.push.ensures ∙ map-more f c.as_slice-step-items.result.now c.loop-step.step-index (Join 0 0) c.loop-step.bounds _ (omega arith) c.loop-step.invariant.value (omega (arith, c.flow_after.ensures.value));
      small = subst (All (λ b. b ≤ most_bound)) (sym c.push.ensures) (All-append (λ b. b ≤ most_bound) c.loop-step.bounds _ c.loop-step.invariant.small (All-cons (λ b. b ≤ most_bound) _ [] (omega (arith, c.flow_after.ensures.small, c.requires.rest)) (All-nil (λ b. b ≤ most_bound))));
    }

pub returns-clause-value : goal.returns-clause-value
returns-clause-value c =
    let I = c.args.instance.now in
    let after = lines_after I c.args.ship c.args.node.now.lines in
    let all : c.loop-step.bounds ≡ map (λ step. node_flow I (after step) + c.args.rest) c.as_slice-step-items.result.now = grind (arith, common_steps) in
    all
    ∙ ap (map (λ step. node_flow I (after step) + c.args.rest)) c.as_slice-step-items.ensures.value
    ∙ sym (map-map (λ lines. node_flow I lines + c.args.rest) after c.steps_by-steps.result)
    ∙ ap (map (λ lines. node_flow I lines + c.args.rest)) c.steps_by-steps.ensures.children
