use Rattle.solve_commands.proofs.KeepLemmas.{certificate_kept}
use Rattle.solve_commands.proofs.keeping.kept_answer.Goals as goal

pub open_dossier_answer-requires : goal.open_dossier_answer-requires
open_dossier_answer-requires g c =
    let told = c.in-Ok in
    let own = told.ensures.certified in
    let kept = certificate_kept c.args.book.now g.limit told.certificate own told.ensures.stands told.ensures.formed c.keeps.ensures c.requires.0 c.requires.1 told.ensures.low told.ensures.more in
    (c.keeps.ensures, (c.requires.0, (own, kept)))
