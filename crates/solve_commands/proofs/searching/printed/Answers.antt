use Rattle.std.proofs.Common.{ap, ◌∙◌}
use Rattle.book_rules.specs.Book.{Case}
use Rattle.solve_commands.proofs.EndLemmas.{dossier_printed_ok}
use Rattle.solve_commands.proofs.searching.printed.Goals as goal

pub returns : goal.returns
returns c =
    dossier_printed_ok c.args.book.now.case.instance c.behind-book.inside.instance c.args.certificate.now (λ t. t.items) c.print_dossier.result
    (ap (λ (k : Case). k.instance) (c.behind-book.view_is ∙ c.case.ensures)) c.requires.accepts c.requires.formed c.print_dossier.ensures.text c.print_dossier.ensures.reads_back
