use Rattle.std.proofs.Common.{ap, ◌∙◌, subst}
use Rattle.book_rules.specs.Book.{Book, Case}
use Rattle.plan_print.specs.Report.{verdict_line}
use Rattle.run_answers.specs.Written.{bytes_in}
use Rattle.solve_commands.specs.Searching.{AnswersPrinted}
use Rattle.solve_commands.specs.Solving.{search_of}
use Rattle.solve_commands.proofs.searching.search_line.Goals as goal

pub returns-in-Ok : goal.returns-in-Ok
returns-in-Ok g c =
    subst (λ (k : Case). AnswersPrinted verdict_line (search_of k.nodes k.turns k.instance) c.line_answer.result.status (bytes_in c.line_answer.result.text))
    (ap (λ (b : Book). b.case) c.deref.ensures ∙ c.in-Ok.ensures.case)
    c.line_answer.ensures
