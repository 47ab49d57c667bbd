use Rattle.solve_commands.proofs.EndLemmas.{book_ends, end_known}
use Rattle.solve_commands.proofs.searching.shown.Goals as goal

pub returns-clause-end : goal.returns-clause-end
returns-clause-end g c = book_ends c.args.book.now g.limit c.verdict.result c.verdict.ensures c.keeps.ensures c.requires

pub returns-clause-known : goal.returns-clause-known
returns-clause-known g c =
    let b = c.args.book.now in
    end_known b.case.instance b.case.nodes b.case.turns g.limit b.best c.verdict.result (book_ends b g.limit c.verdict.result c.verdict.ensures c.keeps.ensures c.requires)
