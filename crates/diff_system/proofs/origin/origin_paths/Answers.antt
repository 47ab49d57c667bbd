use Rattle.std.proofs.Common.{◌≡◌, ◌++◌, ◌∷◌, [], ap, ◌∙◌, arith, to_z, of_z, w64}
use Rattle.std.proofs.lemmas.Int.{ints}
use Rattle.std.proofs.lemmas.Grind.{common_steps}
use Rattle.diff_rules.specs.Differences.{edge_at, no_edge}
use Rattle.diff_system.proofs.BeginLemmas.{begun-tree, begun-more}
use Rattle.diff_system.proofs.origin.origin_paths.Goals as goal

pub loop-variable-preserved : goal.loop-variable-preserved
loop-variable-preserved c =
    let edges = c.args.edges.now in
    let old = c.loop-variable.paths in
    let i = c.loop-variable.variable in
    let k = c.origin_edge-number.result in
    let inv = c.loop-variable.invariant in
    let same : (edge_at c.as_slice.result.now k).weight ≡ (edge_at edges k).weight = ap (λ es. (edge_at es k).weight) c.as_slice.ensures.value in
    let weight = c.requires.weights k no_edge c.origin_edge-number.ensures.known in
    let fits : to_z w64 (of_z w64 (edge_at c.as_slice.result.now k).weight) ≡ (edge_at edges k).weight = omega (arith, ints, weight, same) in
    let is : c.push-in-loop-variable.new.self ≡ record { values = old.values ++ (edge_at edges k).weight ∷ []; parents = old.parents ++ k ∷ [] } = c.push-in-loop-variable.ensures ∙ ap (λ z. record { values = old.values ++ z ∷ []; parents = old.parents ++ k ∷ [] }) fits in
    begun-more edges old c.push-in-loop-variable.new.self i k c.loop-variable.auto.variable inv c.origin_edge-number.ensures.known c.origin_edge-number.ensures.edge is

pub returns : goal.returns
returns c =
    let vars : c.loop-variable.variable ≡ c.args.vars = grind (arith, common_steps) in
    let inv = c.loop-variable.invariant in
    begun-tree c.args.edges.now c.args.vars c.requires c.loop-variable.paths (λ v some less. inv.begun v some (omega (arith, less, vars))) inv.origin (inv.values ∙ vars) (inv.parents ∙ vars)
