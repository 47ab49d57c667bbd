use Rattle.std.proofs.Common.{◌≡◌, ◌<◌, ◌++◌, ◌∷◌, [], List, ℕ, reverse, subst, sym, ap, ◌∙◌}
use Rattle.std.proofs.lemmas.List.{reverse-append}
use Rattle.diff_rules.specs.Differences.{edge_at, no_edge, IsSimpleCycle}
use Rattle.diff_system.specs.PathTree.{IsAbove, above, parent_at}
use Rattle.diff_system.specs.Walks.{IsTail}
use Rattle.diff_system.proofs.CycleLemmas.{above-step, tail-begin, tail-more, tail-closed}
use Rattle.diff_system.proofs.climb.cycle_by.Goals as goal

one : (xs ys : List ℕ) (k : ℕ) → xs ≡ [] → ys ≡ xs ++ k ∷ [] → reverse ys ≡ k ∷ []
one xs ys k e f = ap reverse (f ∙ ap (λ zs. zs ++ k ∷ []) e)

more : (xs ys : List ℕ) (k : ℕ) → ys ≡ xs ++ k ∷ [] → reverse ys ≡ k ∷ reverse xs
more xs ys k f = ap reverse f ∙ reverse-append xs (k ∷ [])

pub loop-at-init : goal.loop-at-init
loop-at-init c =
    let edges = c.args.edges.now in
    let tree = c.args.paths.now in
    let k = c.args.number in
    subst
    (λ es. record {
      known : (edge_at es k).from < c.args.vars;
      above : IsAbove edges tree.parents (edge_at es k).to (edge_at es k).from;
      tail : IsTail edges tree (edge_at es k).to (edge_at es k).from (reverse c.push.new.self);
    })
    (sym c.as_slice.ensures.value)
    (record {
      known = (c.requires.system.ends k no_edge c.requires.known).0;
      above = c.requires.above;
      tail = subst (IsTail edges tree (edge_at edges k).to (edge_at edges k).from) (sym (one c.new-numbers.result c.push.new.self k c.new-numbers.ensures c.push.ensures)) (tail-begin edges c.args.vars c.requires.system tree c.requires.tree k c.requires.known c.requires.raises);
    })

pub variable_above-at-requires-clause-away : goal.variable_above-at-requires-clause-away
variable_above-at-requires-clause-away c = (above-step c.args.edges.now c.args.paths.now.parents (edge_at c.as_slice.result.now c.args.number).to c.loop-at.at c.loop-at.invariant.above c.loop-at-test.true).0

pub loop-at-preserved : goal.loop-at-preserved
loop-at-preserved c =
    let edges = c.args.edges.now in
    let tree = c.args.paths.now in
    let x = (edge_at c.as_slice.result.now c.args.number).to in
    let at = c.loop-at.at in
    let step = above-step edges tree.parents x at c.loop-at.invariant.above c.loop-at-test.true in
    let is = c.variable_above-at.ensures.value in
    let longer : reverse c.push-in-loop-at.new.self ≡ parent_at tree.parents at ∷ reverse c.loop-at.numbers = more c.loop-at.numbers c.push-in-loop-at.new.self (parent_at c.parents.result.now at) c.push-in-loop-at.ensures ∙ ap (λ ps. parent_at ps at ∷ reverse c.loop-at.numbers) c.parents.ensures in
    record {
      known = c.variable_above-at.ensures.below;
      above = subst (IsAbove edges tree.parents x) (sym is) step.1;
      tail = subst (λ v. IsTail edges tree x v (reverse c.push-in-loop-at.new.self)) (sym is) (subst (IsTail edges tree x (above edges tree.parents at)) (sym longer) (tail-more edges c.args.vars c.requires.system tree c.requires.tree x at (reverse c.loop-at.numbers) c.loop-at.invariant.tail c.loop-at.invariant.known step.0 c.loop-at-test.true));
    }

pub returns : goal.returns
returns c =
    let edges = c.args.edges.now in
    let tree = c.args.paths.now in
    let x = (edge_at c.as_slice.result.now c.args.number).to in
    subst (IsSimpleCycle edges) (sym c.reverse.ensures) (tail-closed edges c.args.vars c.requires.system tree c.requires.tree x c.loop-at.at (reverse c.loop-at.numbers) c.loop-at.invariant.tail c.loop-at-test.false)
