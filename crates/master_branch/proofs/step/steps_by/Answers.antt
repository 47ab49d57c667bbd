use Rattle.std.proofs.Common.{◌≡◌, ◌++◌, length, map, arith, sym, ap, ◌∙◌, subst, All}
use Rattle.std.proofs.lemmas.Grind.{common_steps}
use Rattle.master_branch.specs.Steps.{steps_at, steps_by, lines_after, IsStep}
use Rattle.master_branch.proofs.StepLemmas.{steps-more, steps-room, steps-few, steps-each, steps-children}
use Rattle.master_branch.proofs.step.steps_by.Goals as goal

pub push_steps-requires-clause-room : goal.push_steps-requires-clause-room
push_steps-requires-clause-room c =
    let chambers : length c.as_slice.result.now ≡ length c.args.instance.now.chambers = ap length c.as_slice.ensures.value in
    omega (
      arith,
      ap length c.loop-chamber.invariant,
      steps-room (steps_at c.args.instance.now c.args.ship c.args.node.now.lines) c.loop-chamber.chamber (length c.args.instance.now.chambers) (omega arith),
      steps-few c.args.instance.now c.args.ship c.args.node.now.depth c.args.node.now.lines c.requires.node,
      c.args.instance.now.limits.ship_count.1,
      c.args.instance.now.limits.chamber_count.1,
    )

pub loop-chamber-preserved : goal.loop-chamber-preserved
loop-chamber-preserved c =
    let f = steps_at c.args.instance.now c.args.ship c.args.node.now.lines in
    c.push_steps.ensures ∙ ap (λ xs. xs ++ f c.loop-chamber.chamber) c.loop-chamber.invariant ∙ sym (steps-more f c.loop-chamber.chamber)

pub returns-clause-children : goal.returns-clause-children
returns-clause-children c =
    ap (map (lines_after c.args.instance.now c.args.ship c.args.node.now.lines)) (grind (arith, common_steps))
    ∙ steps-children c.args.instance.now c.args.ship c.args.node.now.lines

pub returns-clause-each : goal.returns-clause-each
returns-clause-each c =
    let all : steps_by c.args.instance.now c.args.ship c.args.node.now.lines ≡ c.loop-chamber.steps = grind (arith, common_steps) in
    subst (All (IsStep c.args.instance.now c.args.ship c.args.node.now.lines)) all (steps-each c.args.instance.now c.args.ship c.args.node.now.lines)

pub returns-clause-few : goal.returns-clause-few
returns-clause-few c =
    let all : steps_by c.args.instance.now c.args.ship c.args.node.now.lines ≡ c.loop-chamber.steps = grind (arith, common_steps) in
    omega (arith, ap length all, steps-few c.args.instance.now c.args.ship c.args.node.now.depth c.args.node.now.lines c.requires.node)
