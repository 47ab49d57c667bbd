use Rattle.dossier_commands.proofs.OpenLemmas.{equal_answers, gap_answers}
use Rattle.dossier_commands.proofs.lowering.low_answer.Goals as goal

pub returns-in-Ok : goal.returns-in-Ok
returns-in-Ok c =
    let d = c.args.dossier.now in
    equal_answers c.args.bytes.now d.instance.value d.certificate.value d.low c.cost_in-cost.result c.in-Ok.text.items c.requires.standing c.requires.low c.cost_in-cost.ensures c.if-dossier-cost.true c.in-Ok.ensures

pub returns-in-Ok-2 : goal.returns-in-Ok-2
returns-in-Ok-2 c =
    let d = c.args.dossier.now in
    gap_answers c.args.bytes.now d.instance.value d.certificate.value d.low c.cost_in-cost.result c.in-Ok.text.items c.requires.standing c.requires.low c.cost_in-cost.ensures c.if-dossier-cost.false c.in-Ok.ensures
