use Rattle.std.proofs.Common.{subst, sym, rules}
use Rattle.diff_system.specs.PathTree.{IsAbove}
use Rattle.diff_system.proofs.CycleLemmas.{above-step, above-back, above-here, none-above}
use Rattle.diff_system.proofs.climb.is_above.Goals as goal

pub loop-at-preserved : goal.loop-at-preserved
loop-at-preserved c =
    let edges = c.args.edges.now in
    let parents = c.args.paths.now.parents in
    let a = c.args.ancestor in
    let at = c.loop-at.at in
    let is = c.variable_above-at.ensures.value in
    record {
      known = c.variable_above-at.ensures.below;
      up = λ h. c.loop-at.invariant.up (above-back edges parents a at c.if-at-eq0.false (subst (IsAbove edges parents a) is h));
      down = λ h. subst (IsAbove edges parents a) (sym is) (above-step edges parents a at (c.loop-at.invariant.down h) c.loop-at-test.true).1;
    }

pub returns-then-at-eq0 : goal.returns-then-at-eq0
returns-then-at-eq0 c =
    let none : IsAbove c.args.edges.now c.args.paths.now.parents c.args.ancestor c.args.variable → ⊥ = λ h. none-above c.args.edges.now c.args.paths.now.parents c.args.ancestor c.loop-at.at c.if-at-eq0.true c.loop-at-test.true (c.loop-at.invariant.down h) in
    search rules

pub returns : goal.returns
returns c =
    let up : IsAbove c.args.edges.now c.args.paths.now.parents c.args.ancestor c.args.variable = c.loop-at.invariant.up (above-here c.args.edges.now c.args.paths.now.parents c.args.ancestor c.loop-at.at c.loop-at-test.false) in
    search rules
