use Rattle.std.proofs.Common.{◌↔◌, IsTrue, IfOk, sym, subst}
use Rattle.closing_rules.specs.declared.grounds.Ground.{Ground}
use Rattle.certificate_rules.specs.declared.certificate.Mark.TheVariants as mark
use Rattle.certificate_rules.specs.Certificates.{EndsNode}
use Rattle.cert_check.proofs.closing.is_closed_by.Goals as goal

pub returns-in-Price : goal.returns-in-Price
returns-in-Price c =
    let claim = c.args.claim.now in
    let node = c.args.node.now in
    subst (λ (why : Ground). IfOk c.is_priced_by.result (λ closed. IsTrue closed ↔ EndsNode claim.instance.now claim.cost claim.cuts.now claim.prices.now node.depth node.lines (mark.Leaf why))) (sym c.in-Price.is) c.is_priced_by.ensures

pub returns-in-Swept : goal.returns-in-Swept
returns-in-Swept c =
    let claim = c.args.claim.now in
    let node = c.args.node.now in
    subst (λ (why : Ground). IfOk c.is_swept_by.result (λ closed. IsTrue closed ↔ EndsNode claim.instance.now claim.cost claim.cuts.now claim.prices.now node.depth node.lines (mark.Leaf why))) (sym c.in-Swept.is) c.is_swept_by.ensures
