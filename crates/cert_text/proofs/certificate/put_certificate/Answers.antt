use Rattle.std.proofs.Common.{subst}
use Rattle.cert_text.specs.Prices.{AreListsBack}
use Rattle.cert_text.proofs.CertificateLemmas.{certificate_back}
use Rattle.cert_text.proofs.certificate.put_certificate.Goals as goal

pub returns-clause-reads_back : goal.returns-clause-reads_back
returns-clause-reads_back c =
    certificate_back c.args.form c.args.instance.now c.args.certificate.now c.args.version _ _ _ _ _ c.certificate.view_is c.requires.version c.requires.formed c.requires.own c.in_ok-value.ensures.cuts_back c.in_ok-value.ensures.plan_back
    (λ e. subst AreListsBack c.as_slice.ensures (c.in_ok-value.ensures.prices_back e))
