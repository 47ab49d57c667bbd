use Rattle.std.proofs.Common.{ap, ◌∙◌, subst}
use Rattle.book_rules.specs.Book.{Book, Case}
use Rattle.run_answers.specs.Written.{bytes_in}
use Rattle.solve_commands.specs.Keeping.{AnswersOptions}
use Rattle.solve_commands.specs.Solving.{search_of}
use Rattle.solve_commands.proofs.searching.search_best.Goals as goal

pub returns-in-Ok : goal.returns-in-Ok
returns-in-Ok g c =
    subst (λ (k : Case). AnswersOptions c.args.options.now (search_of k.nodes k.turns k.instance) c.best_answer.result.status (bytes_in c.best_answer.result.text))
    (ap (λ (b : Book). b.case) c.deref.ensures ∙ c.in-Ok.ensures.case)
    c.best_answer.ensures
