use Rattle.std.proofs.Common.{rules}
use Rattle.cert_text.specs.declared.heading.Form.TheVariants as form
use Rattle.checked_dossiers.specs.Standing.{IsSound, HasLow}
use Rattle.checked_dossiers.proofs.ExactLemmas.{sound_accepted}
use Rattle.checked_dossiers.proofs.accepted.accepted_of.Goals as goal

pub returns-in-Ok-clause-accepted : goal.returns-in-Ok-clause-accepted
returns-in-Ok-clause-accepted c =
    let d = c.in-Ok.dossier in
    let sound : IsSound form.Whole c.args.bytes.now d.instance.value d.certificate.value = search rules in
    let low : HasLow d.instance.value d.certificate.value d.low = search rules in
    sound_accepted c.args.bytes.now d.instance.value d.certificate.value d.low sound low
