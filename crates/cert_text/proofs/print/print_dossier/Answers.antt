use Rattle.std.proofs.Common.{◌∙◌, ◌≤◌, ap, sym, subst}
use Rattle.serde_json.specs.Data.{depth}
use Rattle.serde_json.specs.Read.{max_depth}
use Rattle.serde_json.specs.Written.{has_float}
use Rattle.cert_text.proofs.DossierLemmas.{printed_dossier, dossier_back}
use Rattle.cert_text.proofs.ShapeLemmas.{no_float, shallow}
use Rattle.cert_text.proofs.print.print_dossier.Goals as goal

pub print_framed-requires-clause-flat : goal.print_framed-requires-clause-flat
print_framed-requires-clause-flat c = ap has_float c.in_ok-value.ensures.value ∙ no_float c.args.form c.args.instance.now.ships c.args.certificate.now

pub print_framed-requires-clause-shallow : goal.print_framed-requires-clause-shallow
print_framed-requires-clause-shallow c = subst (λ d. depth d ≤ max_depth) (sym c.in_ok-value.ensures.value) (shallow c.args.form c.args.instance.now.ships c.args.certificate.now)

pub returns-clause-text : goal.returns-clause-text
returns-clause-text c = c.in_ok-text.ensures.text ∙ printed_dossier c.args.form c.args.instance.now c.args.certificate.now _ _ _ c.version_of-version.ensures c.heading_line.ensures c.in_ok-value.ensures.value

pub returns-clause-reads_back : goal.returns-clause-reads_back
returns-clause-reads_back c =
    dossier_back c.args.form c.args.instance.now c.args.certificate.now _ _ _ _ c.version_of-version.ensures c.heading_line.ensures c.in_ok-value.ensures.value c.in_ok-text.ensures.text c.in_ok-text.ensures.reads_back c.in_ok-value.ensures.reads_back
