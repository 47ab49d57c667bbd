use Rattle.std.proofs.Common.{◌∙◌, ap}
use Rattle.dossier_commands.specs.DossierTexts.{accepted_text}
use Rattle.dossier_commands.proofs.checking.accepted_answer.Goals as goal

pub returns-in-Ok : goal.returns-in-Ok
returns-in-Ok c =
    let d = c.args.dossier.now in
    record { instance = d.instance.value; certificate = d.certificate.value; accepted = c.requires; shown = c.in-Ok.ensures ∙ ap accepted_text c.cost_in.ensures }
