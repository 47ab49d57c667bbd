use Rattle.std.proofs.Common.{◌≡◌, ◌<◌, length, All, sym, subst, ap, ◌∙◌, List, ℕ}
use Rattle.std.specs.List.Sorted.{IsStrictlyIncreasing}
use Rattle.lock_model.specs.declared.plan.Lockage.{Lockage}
use Rattle.lock_rules.specs.Plan.{IsLegal, cost_of}
use Rattle.replan.specs.Together.{joined, Keeps}
use Rattle.replan.proofs.PutLemmas.{put-known, put-rising, put-few, put-legal, put-keeps, put-cost}
use Rattle.replan.proofs.together.put_together.Goals as goal

pub joined-requires-clause-known : goal.joined-requires-clause-known
joined-requires-clause-known c =
    let left = c.requires.left in
    subst (λ (ns : List ℕ). All (λ (l : Lockage). All (λ s. s < length ns) l.ships) c.args.found.now.lockages) (sym c.as_slice.ensures.value)
    (put-known c.args.instance.now c.args.residual.now c.args.found.now left.0 left.1.0 left.1.1 c.requires.legal)

pub joined-requires-clause-rising : goal.joined-requires-clause-rising
joined-requires-clause-rising c =
    let left = c.requires.left in
    subst IsStrictlyIncreasing (sym c.as_slice.ensures.value) (put-rising c.args.instance.now c.args.residual.now c.args.found.now left.0 left.1.0 left.1.1 c.requires.legal)

pub joined-requires-clause-few : goal.joined-requires-clause-few
joined-requires-clause-few c =
    let left = c.requires.left in
    put-few c.args.instance.now c.args.residual.now c.args.found.now left.0 left.1.0 left.1.1 c.requires.legal

pub returns-clause-legal : goal.returns-clause-legal
returns-clause-legal c =
    let left = c.requires.left in
    let r = c.args.residual.now in
    let Q = c.args.found.now in
    let value : c.joined.result ≡ joined r.kept r.numbers Q = c.joined.ensures ∙ ap (λ ns. joined r.kept ns Q) c.as_slice.ensures.value in
    subst (IsLegal c.args.instance.now) (sym value) (put-legal c.args.instance.now r Q left.0 left.1.0 left.1.1 c.requires.legal)

pub returns-clause-keeps : goal.returns-clause-keeps
returns-clause-keeps c =
    let r = c.args.residual.now in
    let Q = c.args.found.now in
    let value : c.joined.result ≡ joined r.kept r.numbers Q = c.joined.ensures ∙ ap (λ ns. joined r.kept ns Q) c.as_slice.ensures.value in
    λ plan from left. subst (Keeps r.kept from) (sym value) (put-keeps c.args.instance.now r Q plan from left c.requires.legal)

pub returns-clause-cost : goal.returns-clause-cost
returns-clause-cost c =
    let left = c.requires.left in
    let r = c.args.residual.now in
    let Q = c.args.found.now in
    let value : c.joined.result ≡ joined r.kept r.numbers Q = c.joined.ensures ∙ ap (λ ns. joined r.kept ns Q) c.as_slice.ensures.value in
    λ rest is. ap (cost_of c.args.instance.now) value ∙ put-cost c.args.instance.now r Q left.0 left.1.0 left.1.1 c.requires.legal rest is
