use Rattle.std.proofs.Common.{◌≡◌, ◌∙◌, sym, subst, below_more, rules, arith}
use Rattle.std.proofs.lemmas.List.{get_or_default}
use Rattle.master_branch.specs.Steps.{group_in}
use Rattle.cert_check.specs.Hitting.{AreTogether}
use Rattle.cert_check.proofs.HitLemmas.{no-line}
use Rattle.cert_check.proofs.hitting.hits_line.Goals as goal

pub loop-group-preserved : goal.loop-group-preserved
loop-group-preserved c =
    let here : group_in c.args.line.now c.loop-group.group-index ≡ c.group-item.result =
    get_or_default c.args.line.now c.loop-group.group-index _ c.group-item.result c.loop-group-test.true ∙ sym c.group-item.is in
    let apart : ¬ AreTogether c.args.ships.now c.group-item.result = search rules in
    below_more _ _ c.loop-group.invariant (subst (λ g. ¬ AreTogether c.args.ships.now g) (sym here) apart)

pub returns : goal.returns
returns c = (λ h. absurd cc, λ h. absurd (no-line c.args.ships.now c.args.line.now (λ k known. c.loop-group.invariant k (omega (arith, known, c.loop-group-test.false))) h))
