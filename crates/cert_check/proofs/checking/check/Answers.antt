use Rattle.std.proofs.Common.{ap, rules}
use Rattle.certificate_rules.specs.Certificates.{Certificate, Stands}
use Rattle.certificate_rules.specs.Low.{IsLow}
use Rattle.certificate_rules.specs.Failures.{Fails}
use Rattle.cert_check.proofs.AnswerLemmas.{stands-stands, stands-rejected, stands-proven, stands-cheapest, rejected-stands, rejected-rejected}
use Rattle.cert_check.proofs.checking.check.Goals as goal

pub returns-in-Ok-clause-stands : goal.returns-in-Ok-clause-stands
returns-in-Ok-clause-stands c =
    let good : Stands c.args.instance.now c.args.certificate.now × IsLow c.args.instance.now c.args.certificate.now c.in-Ok.low = search rules in
    λ low cost. stands-stands c.args.instance.now c.args.certificate.now c.in-Ok.low _ (ap (λ (k : Certificate). k.cost) c.certificate.view_is) good.0 good.1 low cost

pub returns-in-Ok-clause-rejected : goal.returns-in-Ok-clause-rejected
returns-in-Ok-clause-rejected c =
    let good : Stands c.args.instance.now c.args.certificate.now × IsLow c.args.instance.now c.args.certificate.now c.in-Ok.low = search rules in
    λ place why. stands-rejected c.args.instance.now c.args.certificate.now c.in-Ok.low _ good.0 place why

pub returns-in-Ok-clause-proves : goal.returns-in-Ok-clause-proves
returns-in-Ok-clause-proves c =
    let good : Stands c.args.instance.now c.args.certificate.now × IsLow c.args.instance.now c.args.certificate.now c.in-Ok.low = search rules in
    λ low cost e. stands-proven c.args.instance.now c.args.certificate.now c.heredity.ensures c.normal_form.ensures.normal c.in-Ok.low _ (ap (λ (k : Certificate). k.cost) c.certificate.view_is) good.0 good.1 low cost e

pub returns-in-Ok-clause-cheapest : goal.returns-in-Ok-clause-cheapest
returns-in-Ok-clause-cheapest c =
    let good : Stands c.args.instance.now c.args.certificate.now × IsLow c.args.instance.now c.args.certificate.now c.in-Ok.low = search rules in
    λ low cost e whole. stands-cheapest c.args.instance.now c.args.certificate.now c.heredity.ensures c.normal_form.ensures.normal c.in-Ok.low _ (ap (λ (k : Certificate). k.cost) c.certificate.view_is) good.0 good.1 low cost e whole

pub returns-in-Err-clause-stands : goal.returns-in-Err-clause-stands
returns-in-Err-clause-stands c =
    let f : Fails c.args.instance.now c.args.certificate.now c.in-Err.place c.in-Err.reason = search rules in
    λ low cost. rejected-stands c.args.instance.now c.args.certificate.now c.in-Err.place c.in-Err.reason f low cost

pub returns-in-Err-clause-rejected : goal.returns-in-Err-clause-rejected
returns-in-Err-clause-rejected c =
    let f : Fails c.args.instance.now c.args.certificate.now c.in-Err.place c.in-Err.reason = search rules in
    λ place why. rejected-rejected c.args.instance.now c.args.certificate.now c.in-Err.place c.in-Err.reason f place why
