use Rattle.std.proofs.Common.{rules}
use Rattle.solve_commands.proofs.KeepLemmas.{kept_prints}
use Rattle.solve_commands.proofs.keeping.open_dossier_answer.Goals as goal

pub returns-in-Ok : goal.returns-in-Ok
returns-in-Ok g c =
    let own = c.requires.1.1 in
    kept_prints c.args.book.now g.limit c.args.certificate.now c.in-Ok.text.items c.requires.0 c.requires.1.0 own.0 own.1 (search rules) (search rules)
