use Rattle.std.proofs.Common.{◌≡◌, ◌+◌, ◌<◌, length, All, sym, subst, ap, ◌∙◌, List, ℕ}
use Rattle.std.specs.List.Sorted.{IsStrictlyIncreasing}
use Rattle.lock_model.specs.declared.plan.Lockage.{Lockage}
use Rattle.lock_rules.specs.Plan.{IsLegal, cost_of}
use Rattle.replan.specs.GoingOn.{CanGoOn}
use Rattle.replan.specs.Together.{joined}
use Rattle.replan.proofs.PutLivedLemmas.{lived-known, lived-rising, lived-few, lived-legal, lived-can, lived-cost}
use Rattle.replan.proofs.together.put_together_as_lived.Goals as goal

pub joined-requires-clause-known : goal.joined-requires-clause-known
joined-requires-clause-known c =
    let left = c.requires.left in
    subst (λ (ns : List ℕ). All (λ (l : Lockage). All (λ s. s < length ns) l.ships) c.args.found.now.lockages) (sym c.as_slice.ensures.value)
    (lived-known c.args.instance.now c.args.residual.now c.args.found.now left.0 left.1.0 left.1.1 c.requires.legal)

pub joined-requires-clause-rising : goal.joined-requires-clause-rising
joined-requires-clause-rising c =
    let left = c.requires.left in
    subst IsStrictlyIncreasing (sym c.as_slice.ensures.value) (lived-rising c.args.instance.now c.args.residual.now c.args.found.now left.0 left.1.0 left.1.1 c.requires.legal)

pub joined-requires-clause-few : goal.joined-requires-clause-few
joined-requires-clause-few c =
    let left = c.requires.left in
    lived-few c.args.instance.now c.args.residual.now c.args.found.now left.0 left.1.0 left.1.1 c.requires.legal

pub returns-clause-legal : goal.returns-clause-legal
returns-clause-legal c =
    let left = c.requires.left in
    let r = c.args.residual.now in
    let Q = c.args.found.now in
    let value : c.joined.result ≡ joined r.kept r.numbers Q = c.joined.ensures ∙ ap (λ ns. joined r.kept ns Q) c.as_slice.ensures.value in
    subst (IsLegal c.args.instance.now) (sym value) (lived-legal c.args.instance.now r Q left.0 left.1.0 left.1.1 c.requires.legal)

pub returns-clause-can : goal.returns-clause-can
returns-clause-can c =
    let I = c.args.instance.now in
    let r = c.args.residual.now in
    let Q = c.args.found.now in
    let value : c.joined.result ≡ joined r.kept r.numbers Q = c.joined.ensures ∙ ap (λ ns. joined r.kept ns Q) c.as_slice.ensures.value in
    λ plan minute left. subst (CanGoOn I plan minute) (sym value) (lived-can I r Q plan minute left c.requires.legal)

pub returns-clause-cost : goal.returns-clause-cost
returns-clause-cost c =
    let left = c.requires.left in
    let r = c.args.residual.now in
    let Q = c.args.found.now in
    let value : c.joined.result ≡ joined r.kept r.numbers Q = c.joined.ensures ∙ ap (λ ns. joined r.kept ns Q) c.as_slice.ensures.value in
    λ rest is. ap (cost_of c.args.instance.now) value ∙ lived-cost c.args.instance.now r Q left.0 left.1.0 left.1.1 c.requires.legal rest is
